use Rattle.std.proofs.Common.{map}
use Rattle.driver.specs.Peers.{mask_key, IsWalked}
use Rattle.driver.proofs.masking.has_mask.Given as goal

abbrev pub invariant-loop-mark : goal.invariant-loop-mark
invariant-loop-mark l = IsWalked (map mask_key l.masks.items) l.point (λ number. Unit {0}) l.mark

abbrev pub decreases-loop-mark : goal.decreases-loop-mark
decreases-loop-mark l = l.mark
