use Rattle.std.proofs.Common.{◌≡◌, drop}
use Rattle.bytes_core.specs.Living.{places_of}
use Rattle.bytes_core.specs.Marking.{marking, with_marks}
use Rattle.bytes_core.proofs.loss.mark_all.Given as goal

abbrev pub invariant-loop-number : goal.invariant-loop-number
invariant-loop-number l =
    with_marks (marking l.marks.items l.waiting.items) (places_of l.live.numbers.items l.live.places.items (drop l.number-index l.numbers))
    ≡ with_marks (marking l.fn.marks.items l.fn.waiting.items) (places_of l.live.numbers.items l.live.places.items l.numbers)
