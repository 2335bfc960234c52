-- The objects behind the place stand in front in the text.
use Rattle.std.proofs.Common.{◌≡◌, ◌≤◌, ◌++◌, drop, length, reverse, take}
use Rattle.c_text.specs.Fixed.{put_fixed}
use Rattle.c_text.proofs.fixed.place_of.Given as goal

abbrev pub invariant-loop-at : goal.invariant-loop-at
invariant-loop-at l =
    (l.at ≤ length l.rows) × (put_fixed l.row (reverse l.rows) ≡ reverse (drop l.at l.rows) ++ put_fixed l.row (reverse (take l.at l.rows)))

abbrev pub decreases-loop-at : goal.decreases-loop-at
decreases-loop-at l = l.at
