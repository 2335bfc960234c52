use Rattle.std.proofs.Common.{length, ◌-◌}
use Rattle.planes.proofs.Made.{AreMade}
use Rattle.planes.proofs.change.copy_bytes.Given as goal

abbrev pub invariant-loop-bytes : goal.invariant-loop-bytes
invariant-loop-bytes l = AreMade l.at l.bytes l.fn.bytes l.others

abbrev pub decreases-loop-bytes : goal.decreases-loop-bytes
decreases-loop-bytes l = length l.bytes - l.at

abbrev pub invariant-loop-at : goal.invariant-loop-at
invariant-loop-at l = AreMade l.at l.bytes l.fn.bytes l.others

abbrev pub decreases-loop-at : goal.decreases-loop-at
decreases-loop-at l = length l.bytes - l.at
