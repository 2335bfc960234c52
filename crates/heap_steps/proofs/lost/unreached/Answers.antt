use Rattle.std.proofs.Common.{ℕ, ◌*◌, sym, subst, ◌∙◌}
use Rattle.bytes_core.specs.Marking.{Marking, marking, with_marks, AreMarks}
use Rattle.bytes_core.proofs.Marked.{marks_begin}
use Rattle.heap_steps.specs.Ends.{first_places, places_behind}
use Rattle.heap_steps.proofs.Unmarked.{unmarked_unreached, says_unreached}
use Rattle.heap_steps.proofs.lost.unreached.Goals as goal

pub follow-requires : goal.follow-requires
follow-requires c =
    let first = first_places c.args.graph.now in
    let next = places_behind c.args.graph.now in
    let begun : AreMarks (2 * c.object_count-count.result) first next (with_marks (marking c.in_ok-marks.marks.items c.new-waiting.result.items) first) =
    rw (c.in_ok-marks.ensures.items_if_clones_equal (λ y same. same), c.new-waiting.ensures.items) (marks_begin (2 * c.object_count-count.result) first next) in
    subst (λ (n : ℕ). AreMarks (2 * n) first next (marking c.mark_first.new.marks.items c.mark_first.new.waiting.items)) c.object_count-count.ensures.count
    (subst (λ (state : Marking). AreMarks (2 * c.object_count-count.result) first next state) (sym c.in_ok-mark_first.ensures) begun)

pub returns-clause-list : goal.returns-clause-list
returns-clause-list c =
    (says_unreached c.args.graph.now c.object_count-count.ensures.graph c.unmarked.new.keys
    (c.in_ok-unmarked.ensures ∙ unmarked_unreached c.args.graph.now c.object_count-count.ensures.graph c.follow.new.marks.items c.in_ok-follow.ensures c.as_slice.result.now c.as_slice.ensures.value)).list

pub returns-clause-exact : goal.returns-clause-exact
returns-clause-exact c =
    (says_unreached c.args.graph.now c.object_count-count.ensures.graph c.unmarked.new.keys
    (c.in_ok-unmarked.ensures ∙ unmarked_unreached c.args.graph.now c.object_count-count.ensures.graph c.follow.new.marks.items c.in_ok-follow.ensures c.as_slice.result.now c.as_slice.ensures.value)).exact

pub returns-clause-ascending : goal.returns-clause-ascending
returns-clause-ascending c =
    (says_unreached c.args.graph.now c.object_count-count.ensures.graph c.unmarked.new.keys
    (c.in_ok-unmarked.ensures ∙ unmarked_unreached c.args.graph.now c.object_count-count.ensures.graph c.follow.new.marks.items c.in_ok-follow.ensures c.as_slice.result.now c.as_slice.ensures.value)).ascending
