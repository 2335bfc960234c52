-- Both arms have kinds that are kept.
use Rattle.std.proofs.Common.{sym, ◌∙◌}
use Rattle.c_machine.specs.Expressions.{value_kind}
use Rattle.c_machine.specs.Trees.{text_of}
use Rattle.c_run.specs.declared.stepped.Stepped.TheVariants.{Came}
use Rattle.c_run.proofs.ByCondition.{both_kept, picks}
use Rattle.c_run.proofs.MakingSteps.{answered_by}
use Rattle.c_run.proofs.conditions.pick_step.Goals as goal

pub returns : goal.returns
returns c = answered_by Came _ _ c.pick.result c.came.result
    (λ outcome comes. λ n p choices stands. (
      comes choices
          ∙ picks (text_of p) c.args.kind c.in-Some.one_kind c.in-Some-value_kind.other_kind c.of.result c.of-2.result c.args.one.now c.args.other.now c.args.state.now choices
          (sym c.in-Some.is ∙ c.value_kind.ensures n p stands) (sym c.in-Some-value_kind.is ∙ c.value_kind-2.ensures n p stands) c.of.ensures c.of-2.ensures,
      both_kept (value_kind (text_of p) c.args.one.now) (value_kind (text_of p) c.args.other.now) c.in-Some.one_kind c.in-Some-value_kind.other_kind
          (sym c.in-Some.is ∙ c.value_kind.ensures n p stands) (sym c.in-Some-value_kind.is ∙ c.value_kind-2.ensures n p stands),
    ))
    c.came.ensures c.pick.ensures
