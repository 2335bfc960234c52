-- Where the last node of a segment is a region, a walk through ends of segments that may be empty still comes to an end.
use Rattle.std.proofs.Common.{◌≡◌, ℕ, suc, ◌+◌, ◌<◌, Bool, true, false, ◌&&◌, nat_eq, Option, Some, refl, sym, ◌∙◌, ap, subst, eqb-true, arith}
use Rattle.std.specs.Prelude.{IsSome, if◌then◌else◌}
use Rattle.std.specs.List.{list_all}
use Rattle.std.specs.Option.{option_map_or}
use Rattle.std.proofs.lemmas.Option.{same_Some, none-some}
use Rattle.graph.specs.declared.edges.HasValue.{HasValue}
use Rattle.graph.specs.declared.object.Links.{Links}
use Rattle.graph.specs.declared.object.Object.{Object}
use Rattle.graph.specs.declared.object.Shape.{Shape}
use Rattle.graph.specs.declared.object.Shape.TheVariants.{Region as RegionShape, Segment}
use Rattle.graph.specs.declared.value.Target.{Target}
use Rattle.graph.specs.declared.value.Target.TheVariants.{Region, First, Last, Each}
use Rattle.graph.specs.declared.value.Value.{Value}
use Rattle.graph.specs.declared.value.Value.TheVariants.{Const, Number, Any, Address}
use Rattle.graph.specs.declared.parts.Parts.{Parts}
use Rattle.graph.specs.Maps.{object_at, value_at}
use Rattle.graph.specs.Nodes.{links_in, back_edges, link_edges}
use Rattle.graph.specs.WellFormed.{IsWellFormed, Ranks, Falls, ComesToAnEnd, passes_at, is_outward, is_null, back_fits}
use Rattle.graph.specs.Whole.{IsGraph}
use Rattle.graph.proofs.Found.{Holds-some}
use Rattle.graph.proofs.Sent.{passes-some}
use Rattle.graph.proofs.Tests.{and_left, and_right}
use Rattle.materialise.specs.SplitLast.{rest_before, last_target}
use Rattle.materialise.proofs.FinalThere.{region, owned, become, rest, later, value_there, behind_there, rest_there, region_there, object_was}
use Rattle.materialise.proofs.SplitRegion.{each_at}
use Rattle.materialise.proofs.SplitThere.{IsSegmentAt}

-- the links of the rest
rest_links : (behind : ℕ) (shape : Shape) (links : Links) → links_in (rest_before behind shape) ≡ Some links →
    (old : Links) × (links_in shape ≡ Some old) × (links.next_value ≡ behind) × (links.prev_value ≡ old.prev_value)
rest_links behind RegionShape links linked = absurd (none-some links linked)
rest_links behind (Segment twofold head next prev back least next_value prev_value node) links linked =
    (_, refl, ap (λ (l : Links). l.next_value) (sym (same_Some _ _ linked)), ap (λ (l : Links). l.prev_value) (sym (same_Some _ _ linked)))

-- the links of a segment lead to values that are there
links_there : (parts : Parts) (shape : Shape) (size : ℕ) (links : Links) → links_in shape ≡ Some links → list_all (λ (link : HasValue). passes_at parts is_outward link.value) (link_edges shape) ≡ true → back_fits parts size (links_in shape) ≡ true →
    IsSome (value_at parts.values links.next_value) × IsSome (value_at parts.values links.prev_value)
links_there parts RegionShape size links linked all fits = absurd (none-some links linked)
links_there parts (Segment twofold head next prev back least next_value prev_value node) size links linked all fits =
    subst (λ (l : Links). IsSome (value_at parts.values l.next_value) × IsSome (value_at parts.values l.prev_value)) (same_Some _ _ linked) (by_way twofold all fits)
  where
    by_way : (b : Bool) → (passes_at parts is_outward next_value && list_all (λ (link : HasValue). passes_at parts is_outward link.value) (back_edges b prev prev_value)) ≡ true →
        back_fits parts size (links_in (Segment b head next prev back least next_value prev_value node)) ≡ true → IsSome (value_at parts.values next_value) × IsSome (value_at parts.values prev_value)
    by_way true all fits = (
      passes-some is_outward (value_at parts.values next_value) (and_left (passes_at parts is_outward next_value) (passes_at parts is_outward prev_value && true) all),
      passes-some is_outward (value_at parts.values prev_value) (and_left (passes_at parts is_outward prev_value) true (and_right (passes_at parts is_outward next_value) (passes_at parts is_outward prev_value && true) all)),
    )
    by_way false all fits = (
      passes-some is_outward (value_at parts.values next_value) (and_left (passes_at parts is_outward next_value) true all),
      passes-some is_null (value_at parts.values prev_value) (and_right (nat_eq back 0) (passes_at parts is_null prev_value) (and_right (nat_eq prev 0) (nat_eq back 0 && passes_at parts is_null prev_value) fits)),
    )

-- the rank of the end that a value leads to
abbrev rank_of : Ranks → Value → ℕ
rank_of ranks (Const number size) = 0
rank_of ranks (Number size) = 0
rank_of ranks Any = 0
rank_of ranks (Address object offset Region) = 0
rank_of ranks (Address object offset First) = ranks.first object
rank_of ranks (Address object offset Last) = ranks.last object
rank_of ranks (Address object offset Each) = 0

module _ (parts : Parts) (graph : IsGraph parts) (key : ℕ) (at : IsSegmentAt parts key) where
  form : IsWellFormed parts
  form = graph.well_formed

  abbrev ranks : Ranks
  ranks = form.comes_to_an_end.ranks

  abbrev place : ℕ
  place = region parts graph key at

  abbrev turn : Value → Value
  turn value = become parts graph key at value

  abbrev after : Parts
  after = later parts graph key at

  abbrev behind : ℕ
  behind = owned parts graph key at + 1

  -- what lies before the segment
  next_there : IsSome (value_at parts.values at.links.next_value) × IsSome (value_at parts.values at.links.prev_value)
  next_there = links_there parts at.object.shape at.object.size at.links at.linked
      (each_at (λ k object. list_all (λ (link : HasValue). passes_at parts is_outward link.value) (link_edges object.shape)) key at.object parts.objects form.links_lead_on at.stands)
      (each_at (λ k object. back_fits parts object.size (links_in object.shape)) key at.object parts.objects form.links_back_fit at.stands)

  abbrev before : Value
  before = option_map_or (λ value. value) (value_at parts.values at.links.prev_value) Any

  -- nothing leads to the last node of the rest but the region, so it may have any rank
  abbrev top : ℕ
  top = suc (rank_of ranks (turn before))

  abbrev now : Ranks
  now = record { first = ranks.first; last = λ k. if nat_eq k key then top else ranks.last k }

  last_else : (k : ℕ) → nat_eq k key ≡ false → now.last k ≡ ranks.last k
  last_else k miss = ap (λ (b : Bool). if b then top else ranks.last k) miss

  falls_still : (rank : ℕ) (value : Value) → Falls ranks rank (Some value) → Falls now rank (Some (turn value))
  falls_still rank (Const number size) falls = tt
  falls_still rank (Number size) falls = tt
  falls_still rank Any falls = tt
  falls_still rank (Address object offset target) falls = by_key (nat_eq object key) refl
    where
      hit : (target : Target) → object ≡ key → Falls ranks rank (Some (Address object offset target)) → Falls now rank (Some (last_target place key target offset))
      hit Region same falls = tt
      hit First same falls = subst (λ (k : ℕ). ranks.first k < rank) same falls
      hit Last same falls = tt
      hit Each same falls = tt

      miss : (target : Target) → nat_eq object key ≡ false → Falls ranks rank (Some (Address object offset target)) → Falls now rank (Some (Address object offset target))
      miss Region other falls = tt
      miss First other falls = falls
      miss Last other falls = subst (λ (n : ℕ). n < rank) (sym (last_else object other)) falls
      miss Each other falls = tt

      by_key : (b : Bool) → nat_eq object key ≡ b → Falls now rank (Some (if b then last_target place key target offset else Address object offset target))
      by_key true is = hit target (eqb-true _ _ is) falls
      by_key false is = miss target is falls

  falls_top : (value : Value) → Falls now (suc (rank_of ranks (turn value))) (Some (turn value))
  falls_top (Const number size) = tt
  falls_top (Number size) = tt
  falls_top Any = tt
  falls_top (Address object offset target) = by_key (nat_eq object key) refl
    where
      hit : (target : Target) → Falls now (suc (rank_of ranks (last_target place key target offset))) (Some (last_target place key target offset))
      hit Region = tt
      hit First = omega arith
      hit Last = tt
      hit Each = tt

      miss : (target : Target) → nat_eq object key ≡ false → Falls now (suc (rank_of ranks (Address object offset target))) (Some (Address object offset target))
      miss Region other = tt
      miss First other = omega arith
      miss Last other = subst (λ (n : ℕ). n < suc (ranks.last object)) (sym (last_else object other)) (omega arith)
      miss Each other = tt

      by_key : (b : Bool) → nat_eq object key ≡ b → Falls now (suc (rank_of ranks (if b then last_target place key target offset else Address object offset target))) (Some (if b then last_target place key target offset else Address object offset target))
      by_key true is = hit target
      by_key false is = miss target is

  falls_at : (rank k : ℕ) → IsSome (value_at parts.values k) → Falls ranks rank (value_at parts.values k) → Falls now rank (value_at after.values k)
  falls_at rank k some falls =
      let found = Holds-some (value_at parts.values k) some in
      subst (λ (o : Option Value). Falls now rank o) (sym (value_there parts graph key at k found.item found.is))
      (falls_still rank found.item (subst (λ (o : Option Value). Falls ranks rank o) found.is falls))

  -- another segment is as it was
  was : (k : ℕ) (object : Object) (links : Links) → nat_eq k key ≡ false → object_at after.objects k ≡ Some object → links_in object.shape ≡ Some links → object_at parts.objects k ≡ Some object
  was k object links other stands linked = by_place (nat_eq k place) refl
    where
      by_place : (b : Bool) → nat_eq k place ≡ b → object_at parts.objects k ≡ Some object
      by_place true is =
          absurd (none-some links (ap (λ (o : Object). links_in o.shape) (same_Some _ _ (sym (region_there parts graph key at) ∙ ap (object_at after.objects) (sym (eqb-true _ _ is)) ∙ stands)) ∙ linked))
      by_place false is = object_was parts graph key at k object other is stands

  was_there : (k : ℕ) (object : Object) (links : Links) → object_at parts.objects k ≡ Some object → links_in object.shape ≡ Some links → IsSome (value_at parts.values links.next_value) × IsSome (value_at parts.values links.prev_value)
  was_there k object links stands linked = links_there parts object.shape object.size links linked
      (each_at (λ k object. list_all (λ (link : HasValue). passes_at parts is_outward link.value) (link_edges object.shape)) k object parts.objects form.links_lead_on stands)
      (each_at (λ k object. back_fits parts object.size (links_in object.shape)) k object parts.objects form.links_back_fit stands)

  -- the links of the rest
  left_links : (k : ℕ) (object : Object) (links : Links) → k ≡ key → object_at after.objects k ≡ Some object → links_in object.shape ≡ Some links →
      (links.next_value ≡ behind) × (links.prev_value ≡ at.links.prev_value)
  left_links k object links same stands linked =
      let is : rest parts graph key at ≡ object = same_Some _ _ (sym (rest_there parts graph key at) ∙ ap (object_at after.objects) (sym same) ∙ stands) in
      let old = rest_links behind at.object.shape links (ap (λ (o : Object). links_in o.shape) is ∙ linked) in
      let one : old.0 ≡ at.links = same_Some _ _ (sym old.1 ∙ at.linked) in
      (old.2, old.3 ∙ ap (λ (l : Links). l.prev_value) one)

  falls_before : Falls now top (value_at after.values at.links.prev_value)
  falls_before =
      let found = Holds-some (value_at parts.values at.links.prev_value) next_there.1 in
      let is : before ≡ found.item = ap (λ (o : Option Value). option_map_or (λ value. value) o Any) found.is in
      subst (λ (o : Option Value). Falls now top o) (ap (λ (v : Value). Some (turn v)) is ∙ sym (value_there parts graph key at at.links.prev_value found.item found.is)) (falls_top before)

  falls_behind : (rank : ℕ) → Falls now rank (value_at after.values behind)
  falls_behind rank = subst (λ (o : Option Value). Falls now rank o) (sym (behind_there parts graph key at)) tt

  pub ends_now : ComesToAnEnd after
  ends_now = record {
    ranks = now;
    next = λ k object links stands linked least. next_by k object links stands linked least (nat_eq k key) refl;
    prev = λ k object links stands linked least. prev_by k object links stands linked least (nat_eq k key) refl;
  }
    where
      next_by : (k : ℕ) (object : Object) (links : Links) → object_at after.objects k ≡ Some object → links_in object.shape ≡ Some links → links.least ≡ 0 → (b : Bool) → nat_eq k key ≡ b → Falls now (now.first k) (value_at after.values links.next_value)
      next_by k object links stands linked least true is =
          let old = left_links k object links (eqb-true _ _ is) stands linked in
          subst (λ (n : ℕ). Falls now (now.first k) (value_at after.values n)) (sym old.0) (falls_behind (now.first k))
      next_by k object links stands linked least false is =
          let there = was k object links is stands linked in
          falls_at (ranks.first k) links.next_value (was_there k object links there linked).0 (form.comes_to_an_end.next k object links there linked least)

      prev_by : (k : ℕ) (object : Object) (links : Links) → object_at after.objects k ≡ Some object → links_in object.shape ≡ Some links → links.least ≡ 0 → (b : Bool) → nat_eq k key ≡ b → Falls now (now.last k) (value_at after.values links.prev_value)
      prev_by k object links stands linked least true is =
          let old = left_links k object links (eqb-true _ _ is) stands linked in
          subst (λ (n : ℕ). Falls now n (value_at after.values links.prev_value)) (sym (ap (λ (b : Bool). if b then top else ranks.last k) is))
          (subst (λ (n : ℕ). Falls now top (value_at after.values n)) (sym old.1) falls_before)
      prev_by k object links stands linked least false is =
          let there = was k object links is stands linked in
          subst (λ (n : ℕ). Falls now n (value_at after.values links.prev_value)) (sym (last_else k is))
          (falls_at (ranks.last k) links.prev_value (was_there k object links there linked).1 (form.comes_to_an_end.prev k object links there linked least))
