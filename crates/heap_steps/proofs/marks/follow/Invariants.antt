use Rattle.std.proofs.Common.{◌+◌, ◌*◌, length}
use Rattle.bytes_core.specs.Marking.{marking, AreMarks}
use Rattle.bytes_core.proofs.Marked.{unmarked}
use Rattle.heap_steps.specs.Ends.{first_places, places_behind}
use Rattle.heap_steps.proofs.marks.follow.Given as goal

abbrev pub invariant-loop-place : goal.invariant-loop-place
invariant-loop-place l = AreMarks (2 * length l.graph.objects) (first_places l.graph) (places_behind l.graph) (marking l.marks.items l.waiting.items)

abbrev pub decreases-loop-place : goal.decreases-loop-place
decreases-loop-place l = unmarked l.marks.items + length l.waiting.items
