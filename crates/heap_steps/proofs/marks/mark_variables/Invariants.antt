use Rattle.std.proofs.Common.{◌≡◌, map, length}
use Rattle.graph.specs.declared.parts.Named.{Named}
use Rattle.bytes_core.specs.Marking.{marking, with_marks}
use Rattle.heap_steps.proofs.marks.mark_variables.Given as goal

abbrev pub invariant-loop-left : goal.invariant-loop-left
invariant-loop-left l =
    with_marks (marking l.fn.marks.items l.fn.waiting.items) (map (λ (named : Named). named.object) l.variables)
    ≡ with_marks (marking l.marks.items l.waiting.items) (map (λ (named : Named). named.object) l.left)

abbrev pub decreases-loop-left : goal.decreases-loop-left
decreases-loop-left l = length l.left
