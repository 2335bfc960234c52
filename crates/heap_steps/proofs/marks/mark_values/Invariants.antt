use Rattle.std.proofs.Common.{◌≡◌, length}
use Rattle.bytes_core.specs.Marking.{marking, with_marks}
use Rattle.heap_steps.specs.Ends.{places_of}
use Rattle.heap_steps.proofs.marks.mark_values.Given as goal

abbrev pub invariant-loop-left : goal.invariant-loop-left
invariant-loop-left l =
    with_marks (marking l.fn.marks.items l.fn.waiting.items) (places_of l.graph l.values) ≡ with_marks (marking l.marks.items l.waiting.items) (places_of l.graph l.left)

abbrev pub decreases-loop-left : goal.decreases-loop-left
decreases-loop-left l = length l.left
