use Rattle.std.proofs.Common.{map, length}
use Rattle.driver.specs.Peers.{slot_key, IsNoPeer, IsWalked}
use Rattle.driver.proofs.looking.is_covered_in.Given as goal

abbrev pub invariant-loop-mark : goal.invariant-loop-mark
invariant-loop-mark l = IsWalked (map (slot_key (length l.work.slots.items)) l.work.trail) l.slot (IsNoPeer l.work.trail l.point l.graph) l.mark

abbrev pub decreases-loop-mark : goal.decreases-loop-mark
decreases-loop-mark l = l.mark
