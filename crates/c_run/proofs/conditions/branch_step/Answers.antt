-- The value of the condition says which branch.
use Rattle.std.proofs.Common.{refl, ◌∙◌}
use Rattle.c_machine.specs.Trees.{text_of}
use Rattle.c_run.specs.declared.stepped.Stepped.TheVariants.{Came}
use Rattle.c_run.proofs.ByCondition.{branches}
use Rattle.c_run.proofs.MakingSteps.{answered_by}
use Rattle.c_run.proofs.conditions.branch_step.Goals as goal

pub returns : goal.returns
returns c = answered_by Came _ _ c.branched.result c.came.result
    (λ outcome comes. λ p choices. (
      comes p choices
          ∙ branches (text_of p) c.args.stmt.now c.in-Some.word _ _ c.args.state.now c.pop.new.self choices c.in-Some.ensures.some c.memory.ensures c.is_true-holds.ensures,
      refl,
    ))
    c.came.ensures c.branched.ensures
