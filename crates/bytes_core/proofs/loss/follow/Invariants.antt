use Rattle.std.proofs.Common.{ℕ, ◌+◌, List, length}
use Rattle.bytes_core.specs.Marking.{marking, place_targets, AreMarks}
use Rattle.bytes_core.proofs.Marked.{unmarked}
use Rattle.bytes_core.proofs.loss.follow.Given as goal

abbrev pub invariant-loop-place : goal.invariant-loop-place
invariant-loop-place l =
    (count : ℕ) (first : List ℕ) → AreMarks count first (place_targets l.blocks l.live.numbers.items l.live.places.items) (marking l.fn.marks.items l.fn.waiting.items) →
    AreMarks count first (place_targets l.blocks l.live.numbers.items l.live.places.items) (marking l.marks.items l.waiting.items)

abbrev pub decreases-loop-place : goal.decreases-loop-place
decreases-loop-place l = unmarked l.marks.items + length l.waiting.items
