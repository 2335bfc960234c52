-- The scalars behind a place.
use Rattle.std.proofs.Common.{drop, length, ◌≤◌}
use Rattle.lowering.specs.Latest.{AreLatest}
use Rattle.lowering.proofs.latest.keep_latest.Given as goal

abbrev pub invariant-loop-left : goal.invariant-loop-left
invariant-loop-left l = (l.left ≤ length l.initials) × AreLatest (drop l.left l.initials) l.kept.items l.found.keys

abbrev pub decreases-loop-left : goal.decreases-loop-left
decreases-loop-left l = l.left
