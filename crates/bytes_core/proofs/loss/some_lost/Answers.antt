use Rattle.std.proofs.Common.{length, sym, subst, ◌∙◌}
use Rattle.bytes_core.specs.Living.{places_of}
use Rattle.bytes_core.specs.Marking.{Marking, marking, with_marks, place_targets, AreMarks}
use Rattle.bytes_core.proofs.Marked.{marks_begin}
use Rattle.bytes_core.proofs.Indexed.{live_of, none_lives, none_lost}
use Rattle.bytes_core.proofs.Unmarked.{marks_end}
use Rattle.bytes_core.proofs.loss.some_lost.Goals as goal

pub returns : goal.returns
returns c =
    let numbers = c.args.index.now.live.numbers.items in
    let places = c.args.index.now.live.places.items in
    let first = places_of numbers places c.args.roots.now in
    let next = place_targets c.args.blocks.now numbers places in
    let begun : AreMarks (length numbers) first next (with_marks (marking c.in_ok-marks.marks.items c.new-waiting.result.items) first) =
    rw (c.in_ok-marks.ensures.items_if_clones_equal (λ y same. same), c.as_slice-numbers.ensures.value, c.new-waiting.ensures.items) (marks_begin (length numbers) first next) in
    let marked = subst (λ (state : Marking). AreMarks (length numbers) first next state) (sym c.in_ok-mark_all.ensures) begun in
    c.some_unmarked.ensures
    ∙ rw (c.as_slice-numbers.ensures.value, c.as_slice.ensures.value)
    (marks_end c.args.blocks.now c.args.roots.now numbers places c.follow.new.marks.items
    (live_of c.args.blocks.now numbers places c.args.index.now.bases c.args.index.now.heap c.requires) (c.in_ok-follow.ensures (length numbers) first marked))

pub returns-then-index-eq0 : goal.returns-then-index-eq0
returns-then-index-eq0 c =
    let index = c.args.index.now in
    sym (none_lost c.args.blocks.now c.args.roots.now
    (none_lives c.args.blocks.now index.live.numbers.items index.live.places.items index.bases index.heap c.requires c.if-index-eq0.true))
