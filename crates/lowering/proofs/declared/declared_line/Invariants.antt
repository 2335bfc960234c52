-- The names from a place on stand in front.
use Rattle.std.proofs.Common.{◌≤◌, drop, length}
use Rattle.lowering.specs.Inner.{AreDeclared}
use Rattle.lowering.proofs.declared.declared_line.Given as goal

abbrev pub invariant-loop-left : goal.invariant-loop-left
invariant-loop-left l = (l.left ≤ length l.names) × AreDeclared l.source (drop l.left l.names) l.initial.line l.line

abbrev pub decreases-loop-left : goal.decreases-loop-left
decreases-loop-left l = l.left
