use Rattle.std.proofs.Common.{◌-◌, length}
use Rattle.cover.specs.Checked.{Marking}
use Rattle.cover.proofs.kept.are_marked_once.Given as goal

abbrev pub invariant-loop-at : goal.invariant-loop-at
invariant-loop-at l = Marking l.found l.marks.items l.at

abbrev pub decreases-loop-at : goal.decreases-loop-at
decreases-loop-at l = length l.found.values.items - l.at
