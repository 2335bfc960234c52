-- The statements behind stand in front.
use Rattle.std.proofs.Common.{◌≡◌, ◌≤◌, ◌++◌, drop, length, map}
use Rattle.lowering.specs.Moves.{Does}
use Rattle.lowering.proofs.inner.does_all.Given as goal

abbrev pub invariant-loop-left : goal.invariant-loop-left
invariant-loop-left l = (l.left ≤ length l.body) × (l.line ≡ map Does (drop l.left l.body) ++ l.initial.line)

abbrev pub decreases-loop-left : goal.decreases-loop-left
decreases-loop-left l = l.left
