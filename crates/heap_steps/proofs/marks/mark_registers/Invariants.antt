use Rattle.std.proofs.Common.{◌≡◌, map, length}
use Rattle.graph.specs.declared.parts.Held.{Held}
use Rattle.bytes_core.specs.Marking.{marking, with_marks}
use Rattle.heap_steps.specs.Ends.{places_of}
use Rattle.heap_steps.proofs.marks.mark_registers.Given as goal

abbrev pub invariant-loop-left : goal.invariant-loop-left
invariant-loop-left l =
    with_marks (marking l.fn.marks.items l.fn.waiting.items) (places_of l.graph (map (λ (held : Held). held.value) l.registers))
    ≡ with_marks (marking l.marks.items l.waiting.items) (places_of l.graph (map (λ (held : Held). held.value) l.left))

abbrev pub decreases-loop-left : goal.decreases-loop-left
decreases-loop-left l = length l.left
