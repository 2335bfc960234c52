use Rattle.std.proofs.Common.{◌≡◌, ℕ, List, length, sym, subst, arith}
use Rattle.std.proofs.lemmas.List.{nil_from_length}
use Rattle.bytes_core.specs.Marking.{Marking, marking, place_targets, AreMarks}
use Rattle.bytes_core.proofs.Marked.{marks_follow, look_smaller}
use Rattle.bytes_core.proofs.loss.follow.Goals as goal

pub loop-place-smaller : goal.loop-place-smaller
loop-place-smaller c =
    look_smaller c.loop-place.marks.items c.look_through_place.new.marks.items c.loop-place.waiting.items c.look_through_place.new.waiting.items c.pop.new.self.items c.in-Some.place
    (place_targets c.args.blocks.now c.args.live.now.numbers.items c.args.live.now.places.items c.in-Some.place) c.in-Some.ensures.items c.in_ok-look_through_place.ensures

pub loop-place-preserved : goal.loop-place-preserved
loop-place-preserved c = λ count first begun.
    let next = place_targets c.args.blocks.now c.args.live.now.numbers.items c.args.live.now.places.items in
    subst (λ (state : Marking). AreMarks count first next state) (sym c.in_ok-look_through_place.ensures)
    (marks_follow count first next c.loop-place.marks.items c.loop-place.waiting.items c.pop.new.self.items c.in-Some.place c.in-Some.ensures.items
    (c.loop-place.invariant count first begun))

pub returns : goal.returns
returns c = λ count first begun.
    let next = place_targets c.args.blocks.now c.args.live.now.numbers.items c.args.live.now.places.items in
    let cases = rw c.in_default.is at c.pop.ensures.cases in
    let none : length c.loop-place.waiting.items ≡ 0 = omega (arith, cases.0) in
    subst (λ (waiting : List ℕ). AreMarks count first next (marking c.loop-place.marks.items waiting)) (nil_from_length c.loop-place.waiting.items none)
    (c.loop-place.invariant count first begun)
