use Rattle.std.proofs.Common.{◌≡◌, ◌≤◌, ◌-◌, ◌++◌, drop, length, take}
use Rattle.driver.specs.Ordering.{put_warning}
use Rattle.driver.proofs.ordering.place_of.Given as goal

abbrev pub invariant-loop-at : goal.invariant-loop-at
invariant-loop-at l = (l.at ≤ length l.warnings) × (put_warning l.new l.warnings ≡ take l.at l.warnings ++ put_warning l.new (drop l.at l.warnings))

abbrev pub decreases-loop-at : goal.decreases-loop-at
decreases-loop-at l = length l.warnings - l.at
