use Rattle.std.proofs.Common.{◌≡◌, length}
use Rattle.graph.specs.Maps.{held_by}
use Rattle.changes.proofs.registers.held_by.Given as goal

abbrev pub invariant-loop-left : goal.invariant-loop-left
invariant-loop-left l = held_by l.registers l.register ≡ held_by l.left l.register

abbrev pub decreases-loop-left : goal.decreases-loop-left
decreases-loop-left l = length l.left
