-- One part more stands in front.
use Rattle.std.proofs.Common.{◌-◌, ◌∙◌, arith}
use Rattle.cbase.specs.declared.tree.expr.ExprForm.TheViews.{out-InitPart}
use Rattle.cbase.specs.declared.tree.init.InitPart.{InitPart}
use Rattle.lowering.specs.declared.moves.Move.TheVariants.{Initialises}
use Rattle.lower.proofs.LinesPlaced.{part_more}
use Rattle.lower.proofs.placing.initialisers.initialises_each.Goals as goal

pub loop-left-preserved : goal.loop-left-preserved
loop-left-preserved c = (
  omega (arith, c.loop-left.invariant.0),
  part_more (λ (part : InitPart). Initialises c.args.place (out-InitPart part).init) c.args.parts.now c.loop-left.left c.index-parts-left.result c.loop-left.line c.initialises_part.new.line
      _ c.loop-left-test.true c.loop-left.invariant.0 c.index-parts-left.is c.in_ok-initialises_part.ensures c.loop-left.invariant.1,
)
