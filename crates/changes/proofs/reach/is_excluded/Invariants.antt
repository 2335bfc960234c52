use Rattle.std.proofs.Common.{◌≡◌, length}
use Rattle.std.specs.List.{list_any}
use Rattle.changes.specs.Reaching.{tells_apart, is_excluded}
use Rattle.changes.proofs.reach.is_excluded.Given as goal

abbrev pub invariant-loop-left : goal.invariant-loop-left
invariant-loop-left l = is_excluded l.graph l.key l.number ≡ list_any (tells_apart l.graph l.key l.number) l.left

abbrev pub decreases-loop-left : goal.decreases-loop-left
decreases-loop-left l = length l.left
