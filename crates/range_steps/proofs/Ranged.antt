-- Ranges of objects, as calls need them.
use Rattle.std.proofs.Common.{◌≡◌, ℕ, ◌+◌, ◌≤◌, true, length, Some, sym, ◌∙◌, ap, subst, leb-true, le-leb, arith}
use Rattle.std.specs.List.{list_all}
use Rattle.std.proofs.lemmas.Option.{same_Some}
use Rattle.graph.specs.declared.object.Object.{Object}
use Rattle.graph.specs.declared.parts.Parts.{Parts}
use Rattle.graph.specs.Maps.{object_at}
use Rattle.graph.specs.WellFormed.{lies_in}
use Rattle.graph.specs.Whole.{IsGraph}
use Rattle.graph.proofs.Tests.{list_all-implies}
use Rattle.changes.specs.Places.{IsRoom}
use Rattle.changes.proofs.RangeForm.{fit_now, plane_long}
use Rattle.range_steps.specs.Places.{IsRange}

pub range_edges : (object : Object) (from count : ℕ) → IsRange object from count → list_all (lies_in 65536) object.edges ≡ true
range_edges object from count range =
    list_all-implies (lies_in (length object.plane)) (lies_in 65536) (λ edge lies. let l = leb-true _ _ lies in let s = range.small in le-leb _ _ (omega arith)) object.edges range.inside

-- where there is room in a graph's object its range is one
pub room_range : (parts : Parts) (key from count : ℕ) (object : Object) → IsGraph parts → IsRoom parts key from count → object_at parts.objects key ≡ Some object → IsRange object from count
room_range parts key from count object graph room stands =
    let same = same_Some _ _ (sym room.stands ∙ stands) in
    let region = ap (λ (o : Object). o.shape) (sym same) ∙ room.region in
    let live = ap (λ (o : Object). o.live) (sym same) ∙ room.live in
    let fit = fit_now parts graph.well_formed key object stands region live in
    let long = plane_long parts graph.well_formed key object stands region live in
    let small = leb-true _ _ fit.small in
    let room_in : from + count ≤ object.size = subst (λ (o : Object). from + count ≤ o.size) same room.room in
    record {
      range = omega arith;
      small = omega arith;
      inside = subst (λ (n : ℕ). list_all (lies_in n) object.edges ≡ true) (sym long) fit.inside;
    }
