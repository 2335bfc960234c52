use Rattle.std.proofs.Common.{map}
use Rattle.driver.specs.Peers.{mask_key, IsNoneOfMask, IsWalked}
use Rattle.driver.proofs.looking.is_covered.Given as goal

abbrev pub invariant-loop-mark : goal.invariant-loop-mark
invariant-loop-mark l = IsWalked (map mask_key l.work.masks.items) l.point (IsNoneOfMask l.work.trail l.work.masks.items l.point l.graph) l.mark

abbrev pub decreases-loop-mark : goal.decreases-loop-mark
decreases-loop-mark l = l.mark
