-- The parts behind stand in front.
use Rattle.std.proofs.Common.{◌≡◌, ◌≤◌, ◌++◌, drop, length, map}
use Rattle.cbase.specs.declared.tree.expr.ExprForm.TheViews.{out-InitPart}
use Rattle.cbase.specs.declared.tree.init.InitPart.{InitPart}
use Rattle.lowering.specs.declared.moves.Move.TheVariants.{Initialises}
use Rattle.lower.proofs.placing.initialisers.initialises_each.Given as goal

abbrev pub invariant-loop-left : goal.invariant-loop-left
invariant-loop-left l = (l.left ≤ length l.parts) × (l.line ≡ map (λ (part : InitPart). Initialises l.place (out-InitPart part).init) (drop l.left l.parts) ++ l.initial.line)

abbrev pub decreases-loop-left : goal.decreases-loop-left
decreases-loop-left l = l.left
