use Rattle.std.proofs.Common.{◌≡◌, drop}
use Rattle.bytes_core.specs.Living.{places_of}
use Rattle.bytes_core.specs.Marking.{marking, with_marks, targets}
use Rattle.bytes_core.proofs.loss.mark_targets.Given as goal

abbrev pub invariant-loop-at : goal.invariant-loop-at
invariant-loop-at l =
    with_marks (marking l.marks.items l.waiting.items) (places_of l.live.numbers.items l.live.places.items (targets (drop l.at l.bytes)))
    ≡ with_marks (marking l.fn.marks.items l.fn.waiting.items) (places_of l.live.numbers.items l.live.places.items (targets l.bytes))
