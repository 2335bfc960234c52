-- One statement in front of the others.
use Rattle.std.proofs.Common.{[], ◌∷◌, ap, ◌∙◌, arith}
use Rattle.cbase.specs.declared.tree.stmt.Stmt.{Stmt}
use Rattle.c_machine.specs.declared.task.Task.TheVariants.{Execute}
use Rattle.c_machine.specs.State.{doing}
use Rattle.c_run.proofs.tasks.EachInFront.{item_done}
use Rattle.c_run.proofs.doing.execute_each.Goals as goal

pub loop-left-preserved : goal.loop-left-preserved
loop-left-preserved c = record {
  inside = grind (arith, c.loop-left.invariant.inside);
  pushed =
      item_done Execute c.args.body.now c.loop-left.left c.index-body-left.result c.args.state.now c.loop-left.state c.do_first.new.self c.loop-left-test.true c.loop-left.invariant.inside
      c.index-body-left.is c.loop-left.invariant.pushed (c.in_ok-do_first.ensures.ok ∙ ap (λ (stmt : Stmt). doing (Execute stmt ∷ []) c.loop-left.state) c.of.ensures);
}
