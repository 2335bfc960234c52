use Rattle.std.proofs.Common.{◌≡◌, length}
use Rattle.changes.specs.Parts.{is_among}
use Rattle.changes.proofs.registers.is_among.Given as goal

abbrev pub invariant-loop-left : goal.invariant-loop-left
invariant-loop-left l = is_among l.registers l.register ≡ is_among l.left l.register

abbrev pub decreases-loop-left : goal.decreases-loop-left
decreases-loop-left l = length l.left
