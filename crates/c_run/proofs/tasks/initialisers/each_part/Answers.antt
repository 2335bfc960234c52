-- One part in front of the others.
use Rattle.std.proofs.Common.{◌≡◌, ℕ, drop, subst, arith}
use Rattle.cbase.specs.declared.tree.expr.ExprForm.TheViews.{out-InitPart}
use Rattle.cbase.specs.declared.tree.init.InitPart.{InitPart}
use Rattle.c_machine.specs.declared.task.Task.TheVariants.{Initialise}
use Rattle.c_machine.specs.State.{doing}
use Rattle.c_run.proofs.tasks.EachInFront.{item_done}
use Rattle.c_run.proofs.tasks.Initialised.{parts_kept, parts_tasks}
use Rattle.c_run.proofs.tasks.initialisers.each_part.Goals as goal

pub loop-left-preserved : goal.loop-left-preserved
loop-left-preserved c = (
  grind (arith, c.loop-left.invariant.0),
  item_done (λ (part : InitPart). Initialise c.args.place (out-InitPart part).init) c.args.parts.now c.loop-left.left c.index-parts-left.result c.args.state.now
      c.loop-left.state c.do_part.new.state c.loop-left-test.true c.loop-left.invariant.0 c.index-parts-left.is c.loop-left.invariant.1 c.in_ok-do_part.ensures,
)

pub returns : goal.returns
returns c =
    let last : c.loop-left.left ≡ 0 = grind (arith, c.loop-left-test.false) in (
      subst (λ (k : ℕ). c.loop-left.state ≡ doing (parts_tasks c.args.place (drop k c.args.parts.now)) c.args.state.now) last c.loop-left.invariant.1,
      parts_kept c.args.place c.args.parts.now,
    )
