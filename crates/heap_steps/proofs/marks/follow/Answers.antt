use Rattle.std.proofs.Common.{◌≡◌, ℕ, ◌*◌, List, length, sym, subst, arith}
use Rattle.std.specs.Prelude.{Contains}
use Rattle.std.proofs.lemmas.List.{nil_from_length}
use Rattle.std.proofs.lemmas.List.Elements.{Contains-push}
use Rattle.bytes_core.specs.Marking.{Marking, marking, AreMarks}
use Rattle.bytes_core.proofs.Marked.{marks_follow, look_smaller}
use Rattle.heap_steps.specs.Ends.{first_places, places_behind}
use Rattle.heap_steps.proofs.Marked.{waits_inside}
use Rattle.heap_steps.proofs.marks.follow.Goals as goal

pub look_through-requires : goal.look_through-requires
look_through-requires c =
    waits_inside (2 * length c.args.graph.now.objects) (first_places c.args.graph.now) (places_behind c.args.graph.now) (marking c.loop-place.marks.items c.loop-place.waiting.items) c.in-Some.place c.loop-place.invariant
    (subst (λ (items : List ℕ). Contains items c.in-Some.place) (sym c.in-Some.ensures.items) (Contains-push c.pop.new.self.items c.in-Some.place))

pub loop-place-smaller : goal.loop-place-smaller
loop-place-smaller c =
    look_smaller c.loop-place.marks.items c.look_through.new.marks.items c.loop-place.waiting.items c.look_through.new.waiting.items c.pop.new.self.items c.in-Some.place (places_behind c.args.graph.now c.in-Some.place)
    c.in-Some.ensures.items c.in_ok-look_through.ensures

pub loop-place-preserved : goal.loop-place-preserved
loop-place-preserved c =
    subst (λ (state : Marking). AreMarks (2 * length c.args.graph.now.objects) (first_places c.args.graph.now) (places_behind c.args.graph.now) state) (sym c.in_ok-look_through.ensures)
    (marks_follow (2 * length c.args.graph.now.objects) (first_places c.args.graph.now) (places_behind c.args.graph.now) c.loop-place.marks.items c.loop-place.waiting.items c.pop.new.self.items c.in-Some.place c.in-Some.ensures.items
    c.loop-place.invariant)

pub returns : goal.returns
returns c =
    let cases = rw c.in_default.is at c.pop.ensures.cases in
    let none : length c.loop-place.waiting.items ≡ 0 = omega (arith, cases.0) in
    subst (λ (waiting : List ℕ). AreMarks (2 * length c.args.graph.now.objects) (first_places c.args.graph.now) (places_behind c.args.graph.now) (marking c.loop-place.marks.items waiting)) (nil_from_length c.loop-place.waiting.items none)
    c.loop-place.invariant
