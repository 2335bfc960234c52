-- The search keeps what it knows, and each step is one of as many as there can be.
use Rattle.std.proofs.Common.{◌≡◌, length}
use Rattle.flow.specs.Counting.{IsSearch, steps_left}
use Rattle.flow.proofs.walking.walks_from.Given as goal

abbrev pub invariant-loop-search : goal.invariant-loop-search
invariant-loop-search l = record {
  points : length l.search.marks.items ≡ l.points;
  known : IsSearch l.edges l.point l.search.marks.items l.search.earlier.items l.search.visit;
}

abbrev pub decreases-loop-search : goal.decreases-loop-search
decreases-loop-search l = steps_left l.edges l.search.marks.items l.search.earlier.items l.search.visit
