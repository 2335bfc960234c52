-- What values become where a segment has no nodes: what the points of a graph ask of them stays, and none is an address of the segment.
use Rattle.std.proofs.Common.{◌≡◌, ℕ, ◌<◌, ◌≤◌, Bool, true, false, ◌&&◌, nat_eq, ℤ, pos, Option, None, Some, refl, sym, ◌∙◌, ap, subst, eq-eqb, eqb-true, lt-ltb, arith, ◌⊎◌, inl, inr}
use Rattle.std.specs.Prelude.{◌+ℤ◌, ◌-ℤ◌, if◌then◌else◌}
use Rattle.std.specs.List.{list_all}
use Rattle.std.specs.Option.{option_map_or}
use Rattle.std.proofs.lemmas.Bool.{false≢true, cases_lt}
use Rattle.std.proofs.lemmas.Option.{none-some}
use Rattle.graph.specs.declared.edges.HasValue.{HasValue}
use Rattle.graph.specs.declared.object.Links.{Links}
use Rattle.graph.specs.declared.object.Object.{Object}
use Rattle.graph.specs.declared.object.Shape.{Shape}
use Rattle.graph.specs.declared.object.Shape.TheVariants.{Region as RegionShape, Segment}
use Rattle.graph.specs.declared.value.Target.{Target}
use Rattle.graph.specs.declared.value.Target.TheVariants.{Region, First, Last, Each}
use Rattle.graph.specs.declared.value.Value.{Value}
use Rattle.graph.specs.declared.value.Value.TheVariants.{Const, Number, Any, Address}
use Rattle.graph.specs.declared.parts.KeyedObject.{KeyedObject}
use Rattle.graph.specs.declared.parts.KeyedValue.{KeyedValue}
use Rattle.graph.specs.declared.parts.Parts.{Parts}
use Rattle.graph.specs.Large.{leads_to}
use Rattle.graph.specs.Maps.{value_at}
use Rattle.graph.specs.Nodes.{links_in, link_edges}
use Rattle.graph.specs.Sizes.{value_size, value_class, is_sized, is_number}
use Rattle.graph.specs.WellFormed.{IsWellFormed, Falls, Ranks, passes_at, may_stand_in, may_be_held, means_one, target_fits, leads_to_object, is_outward, is_null, back_fits}
use Rattle.graph.proofs.Found.{Holds-some, found-all}
use Rattle.graph.proofs.Sent.{passes-some}
use Rattle.graph.proofs.Tests.{and_left, and_right, and_both}
use Rattle.changes.specs.Ranges.{class_for}
use Rattle.register_steps.proofs.Moved.{wrapped_below}
use Rattle.materialise.specs.Beyond.{moved_value, beyond_end, step_beyond, emptied_value}
use Rattle.materialise.proofs.Emptiable.{MayBeEmpty}

-- a value that lies beyond an end
pub record IsBeyond (parts : Parts) (link : ℕ) : Type 0 where
  pub value : Value
  pub is : value_at parts.values link ≡ Some value
  pub outward : is_outward value ≡ true
  pub leads : leads_to_object parts value ≡ true

pub null_outward : (value : Value) → is_null value ≡ true → is_outward value ≡ true
null_outward (Const number size) is = and_right (nat_eq number 0) (nat_eq size 8) is
null_outward (Number size) is = absurd (false≢true is)
null_outward Any is = absurd (false≢true is)
null_outward (Address object offset target) is = absurd (false≢true is)

-- A value that is moved.

module _ (value : Value) (bytes : ℤ) where
  pub moved_outward : is_outward value ≡ true → is_outward (moved_value value bytes) ≡ true
  moved_outward outward = by_value value outward
    where
      by_value : (v : Value) → is_outward v ≡ true → is_outward (moved_value v bytes) ≡ true
      by_value (Const number size) is = refl
      by_value (Number size) is = is
      by_value Any is = is
      by_value (Address object offset target) is = is

outward_held : (value : Value) → is_outward value ≡ true → may_be_held value ≡ true
outward_held (Const number size) is = refl
outward_held (Number size) is = absurd (false≢true is)
outward_held Any is = absurd (false≢true is)
outward_held (Address object offset target) is = is

outward_stands : (home : ℕ) (value : Value) → is_outward value ≡ true → may_stand_in home value ≡ true
outward_stands home (Const number size) is = refl
outward_stands home (Number size) is = absurd (false≢true is)
outward_stands home Any is = absurd (false≢true is)
outward_stands home (Address object offset Region) is = refl
outward_stands home (Address object offset First) is = refl
outward_stands home (Address object offset Last) is = refl
outward_stands home (Address object offset Each) is = absurd (false≢true is)

outward_size : (value : Value) → is_outward value ≡ true → value_size value ≡ 8
outward_size (Const number size) is = eqb-true _ _ is
outward_size (Number size) is = absurd (false≢true is)
outward_size Any is = refl
outward_size (Address object offset target) is = refl

moved_sized : (value : Value) (bytes : ℤ) → is_outward value ≡ true → is_sized (moved_value value bytes) ≡ true
moved_sized (Const number size) bytes is = lt-ltb _ _ (wrapped_below (pos number +ℤ bytes))
moved_sized (Number size) bytes is = absurd (false≢true is)
moved_sized Any bytes is = refl
moved_sized (Address object offset target) bytes is = refl

moved_leads : (parts : Parts) (value : Value) (bytes : ℤ) → leads_to_object parts value ≡ true → leads_to_object parts (moved_value value bytes) ≡ true
moved_leads parts (Const number size) bytes leads = refl
moved_leads parts (Number size) bytes leads = leads
moved_leads parts Any bytes leads = leads
moved_leads parts (Address object offset target) bytes leads = leads

moved_to : (key : ℕ) (value : Value) (bytes : ℤ) → leads_to key (moved_value value bytes) ≡ leads_to key value
moved_to key (Const number size) bytes = refl
moved_to key (Number size) bytes = refl
moved_to key Any bytes = refl
moved_to key (Address object offset target) bytes = refl

moved_falls : (ranks : Ranks) (rank above : ℕ) (value : Value) (bytes : ℤ) → rank ≤ above → Falls ranks rank (Some value) → Falls ranks above (Some (moved_value value bytes))
moved_falls ranks rank above (Const number size) bytes below falls = tt
moved_falls ranks rank above (Number size) bytes below falls = tt
moved_falls ranks rank above Any bytes below falls = tt
moved_falls ranks rank above (Address object offset Region) bytes below falls = tt
moved_falls ranks rank above (Address object offset First) bytes below falls = omega arith
moved_falls ranks rank above (Address object offset Last) bytes below falls = omega arith
moved_falls ranks rank above (Address object offset Each) bytes below falls = tt

class_at_most_two : (value : Value) → class_for value ≤ 2
class_at_most_two (Const number size) = by_zero (nat_eq number 0)
  where
    by_zero : (b : Bool) → (if b then 0 else 1) ≤ 2
    by_zero true = omega arith
    by_zero false = omega arith
class_at_most_two (Number size) = omega arith
class_at_most_two Any = omega arith
class_at_most_two (Address object offset target) = omega arith

module _ (parts : Parts) (form : IsWellFormed parts) (key : ℕ) (may : MayBeEmpty parts key) where
  abbrev pub links : Links
  links = may.links

  -- What lies beyond the two ends.

  beyond_link : (link : ℕ) → passes_at parts is_outward link ≡ true → IsBeyond parts link
  beyond_link link passes =
      let found = Holds-some (value_at parts.values link) (passes-some is_outward (value_at parts.values link) passes) in record {
        value = found.item;
        is = found.is;
        outward = subst (λ (o : Option Value). option_map_or is_outward o false ≡ true) found.is passes;
        leads = found-all (λ (entry : KeyedValue). entry.key) (λ entry. entry.value) (leads_to_object parts) parts.values link found.item form.addresses_lead_to_objects found.is;
      }

  both_links : (object : Object) (shape : Shape) (own : Links) → links_in shape ≡ Some own → list_all (λ (link : HasValue). passes_at parts is_outward link.value) (link_edges shape) ≡ true → back_fits parts object.size (links_in shape) ≡ true →
      (passes_at parts is_outward own.next_value ≡ true) × (passes_at parts is_outward own.prev_value ≡ true)
  both_links object RegionShape own linked all fits = absurd (none-some own linked)
  both_links object (Segment twofold head next prev back least next_value prev_value node) own linked all fits =
      subst (λ (o : Option Links). option_map_or (λ (l : Links). passes_at parts is_outward l.next_value && passes_at parts is_outward l.prev_value) o false ≡ true → (passes_at parts is_outward own.next_value ≡ true) × (passes_at parts is_outward own.prev_value ≡ true))
      (sym linked)
      (λ both. (and_left (passes_at parts is_outward own.next_value) (passes_at parts is_outward own.prev_value) both, and_right (passes_at parts is_outward own.next_value) (passes_at parts is_outward own.prev_value) both))
      (by_way twofold all fits)
    where
      null_passes : (found : Option Value) → option_map_or is_null found false ≡ true → option_map_or is_outward found false ≡ true
      null_passes None is = absurd (false≢true is)
      null_passes (Some value) is = null_outward value is

      by_way : (both : Bool) → list_all (λ (link : HasValue). passes_at parts is_outward link.value) (link_edges (Segment both head next prev back least next_value prev_value node)) ≡ true →
          back_fits parts object.size (links_in (Segment both head next prev back least next_value prev_value node)) ≡ true → (passes_at parts is_outward next_value && passes_at parts is_outward prev_value) ≡ true
      by_way true all fits = and_both (passes_at parts is_outward next_value) (passes_at parts is_outward prev_value) (and_left (passes_at parts is_outward next_value) (passes_at parts is_outward prev_value && true) all)
          (and_left (passes_at parts is_outward prev_value) true (and_right (passes_at parts is_outward next_value) (passes_at parts is_outward prev_value && true) all))
      by_way false all fits = and_both (passes_at parts is_outward next_value) (passes_at parts is_outward prev_value) (and_left (passes_at parts is_outward next_value) true all)
          (null_passes (value_at parts.values prev_value) (and_right (nat_eq back 0) (passes_at parts is_null prev_value) (and_right (nat_eq prev 0) (nat_eq back 0 && passes_at parts is_null prev_value) fits)))

  both : (passes_at parts is_outward links.next_value ≡ true) × (passes_at parts is_outward links.prev_value ≡ true)
  both = both_links may.object may.object.shape links may.linked
      (found-all (λ (entry : KeyedObject). entry.key) (λ entry. entry.object) (λ object. list_all (λ (link : HasValue). passes_at parts is_outward link.value) (link_edges object.shape)) parts.objects key may.object form.links_lead_on may.stands)
      (found-all (λ (entry : KeyedObject). entry.key) (λ entry. entry.object) (λ object. back_fits parts object.size (links_in object.shape)) parts.objects key may.object form.links_back_fit may.stands)

  pub next_is : IsBeyond parts links.next_value
  next_is = beyond_link links.next_value both.0

  pub prev_is : IsBeyond parts links.prev_value
  prev_is = beyond_link links.prev_value both.1

  -- No address of the one block of a region is one of the segment.

  pub no_region : (offset : ℤ) → leads_to_object parts (Address key offset Region) ≡ true → ⊥
  no_region offset leads = by_shape may.object.shape may.linked (subst (λ (o : Option Object). option_map_or (λ found. target_fits Region found.shape) o false ≡ true) may.stands leads)
    where
      by_shape : (shape : Shape) → links_in shape ≡ Some links → target_fits Region shape ≡ true → ⊥
      by_shape RegionShape linked fits = none-some links linked
      by_shape (Segment twofold head next prev back least next_value prev_value node) linked fits = false≢true fits

  -- What a value becomes in one step.

  pub step_cases : (Q : Value → Value → Type 0) → ((value : Value) → leads_to key value ≡ false → Q value value) →
      ((offset : ℤ) → Q (Address key offset First) (moved_value next_is.value (offset -ℤ pos links.head))) → ((offset : ℤ) → Q (Address key offset Last) (moved_value prev_is.value (offset -ℤ pos links.back))) →
      ((offset : ℤ) → Q (Address key offset Each) (Const 0 8)) → ((offset : ℤ) → Q (Address key offset Region) (Address key offset Region)) → (value : Value) → Q value (step_beyond parts key links value)
  step_cases Q same first last each region (Const number size) = same (Const number size) refl
  step_cases Q same first last each region (Number size) = same (Number size) refl
  step_cases Q same first last each region Any = same Any refl
  step_cases Q same first last each region (Address object offset target) = by_key (nat_eq object key) refl
    where
      by_target : (target : Target) → Q (Address key offset target) (beyond_end parts links (Address key offset target) target offset)
      by_target Region = region offset
      by_target First = subst (λ (o : Option Value). Q (Address key offset First) (option_map_or (λ v. moved_value v (offset -ℤ pos links.head)) o Any)) (sym next_is.is) (first offset)
      by_target Last = subst (λ (o : Option Value). Q (Address key offset Last) (option_map_or (λ v. moved_value v (offset -ℤ pos links.back)) o Any)) (sym prev_is.is) (last offset)
      by_target Each = each offset

      by_key : (b : Bool) → nat_eq object key ≡ b → Q (Address object offset target) (if b then beyond_end parts links (Address object offset target) target offset else Address object offset target)
      by_key false is = same (Address object offset target) is
      by_key true is = subst (λ (k : ℕ). Q (Address k offset target) (beyond_end parts links (Address k offset target) target offset)) (sym (eqb-true _ _ is)) (by_target target)

  pub step_same : (value : Value) → leads_to key value ≡ false → step_beyond parts key links value ≡ value
  step_same value differs = step_cases (λ value after. leads_to key value ≡ false → after ≡ value) (λ value differs same. refl)
      (λ offset differs. absurd (false≢true (sym differs ∙ here))) (λ offset differs. absurd (false≢true (sym differs ∙ here))) (λ offset differs. absurd (false≢true (sym differs ∙ here))) (λ offset differs. refl) value differs
    where
      here : nat_eq key key ≡ true
      here = eq-eqb key key refl

  -- What tests say of it.

  abbrev pub step : Value → Value
  step value = step_beyond parts key links value

  step_outward : (value : Value) → is_outward value ≡ true → is_outward (step value) ≡ true
  step_outward value = step_cases (λ v w. is_outward v ≡ true → is_outward w ≡ true) (λ v differs is. is)
      (λ offset is. moved_outward next_is.value (offset -ℤ pos links.head) next_is.outward) (λ offset is. moved_outward prev_is.value (offset -ℤ pos links.back) prev_is.outward) (λ offset is. refl) (λ offset is. is) value

  step_held : (value : Value) → may_be_held value ≡ true → may_be_held (step value) ≡ true
  step_held value = step_cases (λ v w. may_be_held v ≡ true → may_be_held w ≡ true) (λ v differs is. is)
      (λ offset is. outward_held _ (moved_outward next_is.value (offset -ℤ pos links.head) next_is.outward)) (λ offset is. outward_held _ (moved_outward prev_is.value (offset -ℤ pos links.back) prev_is.outward)) (λ offset is. refl) (λ offset is. is) value

  step_stands : (home : ℕ) (value : Value) → may_stand_in home value ≡ true → may_stand_in home (step value) ≡ true
  step_stands home value = step_cases (λ v w. may_stand_in home v ≡ true → may_stand_in home w ≡ true) (λ v differs is. is)
      (λ offset is. outward_stands home _ (moved_outward next_is.value (offset -ℤ pos links.head) next_is.outward)) (λ offset is. outward_stands home _ (moved_outward prev_is.value (offset -ℤ pos links.back) prev_is.outward)) (λ offset is. refl) (λ offset is. is) value

  step_size : (value : Value) → value_size (step value) ≡ value_size value
  step_size value = step_cases (λ v w. value_size w ≡ value_size v) (λ v differs. refl)
      (λ offset. outward_size (moved_value next_is.value (offset -ℤ pos links.head)) (moved_outward next_is.value (offset -ℤ pos links.head) next_is.outward)) (λ offset. outward_size (moved_value prev_is.value (offset -ℤ pos links.back)) (moved_outward prev_is.value (offset -ℤ pos links.back) prev_is.outward)) (λ offset. refl) (λ offset. refl) value

  step_sized : (value : Value) → is_sized value ≡ true → is_sized (step value) ≡ true
  step_sized value = step_cases (λ v w. is_sized v ≡ true → is_sized w ≡ true) (λ v differs is. is)
      (λ offset is. moved_sized next_is.value (offset -ℤ pos links.head) next_is.outward) (λ offset is. moved_sized prev_is.value (offset -ℤ pos links.back) prev_is.outward) (λ offset is. refl) (λ offset is. is) value

  pub step_leads : (value : Value) → leads_to_object parts value ≡ true → leads_to_object parts (step value) ≡ true
  step_leads value = step_cases (λ v w. leads_to_object parts v ≡ true → leads_to_object parts w ≡ true) (λ v differs is. is)
      (λ offset is. moved_leads parts next_is.value (offset -ℤ pos links.head) next_is.leads) (λ offset is. moved_leads parts prev_is.value (offset -ℤ pos links.back) prev_is.leads) (λ offset is. refl) (λ offset is. is) value

  step_class : (value : Value) → class_for (step value) ≤ value_class value
  step_class value = step_cases (λ v w. class_for w ≤ value_class v) (λ v differs. own v) (λ offset. class_at_most_two (moved_value next_is.value (offset -ℤ pos links.head))) (λ offset. class_at_most_two (moved_value prev_is.value (offset -ℤ pos links.back)))
      (λ offset. class_at_most_two (Const 0 8)) (λ offset. class_at_most_two (Address key offset Region)) value
    where
      own : (v : Value) → class_for v ≤ value_class v
      own (Const number size) = by_zero (nat_eq number 0)
        where
          by_zero : (b : Bool) → (if b then 0 else 1) ≤ 1
          by_zero true = omega arith
          by_zero false = omega arith
      own (Number size) = omega arith
      own Any = omega arith
      own (Address object offset target) = omega arith

  -- ranks still fall
  abbrev pub ranks : Ranks
  ranks = form.comes_to_an_end.ranks

  pub next_falls : Falls ranks (ranks.first key) (Some next_is.value)
  next_falls = subst (λ (o : Option Value). Falls ranks (ranks.first key) o) next_is.is (form.comes_to_an_end.next key may.object links may.stands may.linked may.least)

  pub prev_falls : Falls ranks (ranks.last key) (Some prev_is.value)
  prev_falls = subst (λ (o : Option Value). Falls ranks (ranks.last key) o) prev_is.is (form.comes_to_an_end.prev key may.object links may.stands may.linked may.least)

  step_falls : (rank : ℕ) (value : Value) → Falls ranks rank (Some value) → Falls ranks rank (Some (step value))
  step_falls rank value = step_cases (λ v w. Falls ranks rank (Some v) → Falls ranks rank (Some w)) (λ v differs falls. falls)
      (λ offset below. moved_falls ranks (ranks.first key) rank next_is.value (offset -ℤ pos links.head) (omega arith) next_falls) (λ offset below. moved_falls ranks (ranks.last key) rank prev_is.value (offset -ℤ pos links.back) (omega arith) prev_falls) (λ offset falls. tt) (λ offset falls. tt) value

  -- No address of the segment is left.

  -- what lies behind it is an address of its last node at most, and what lies before it one of its first node
  abbrev pub IsClear : Value → Type 0
  IsClear value = leads_to key value ≡ false

  clear_by : (rank : ℕ) (value : Value) → is_outward value ≡ true → leads_to_object parts value ≡ true → Falls ranks rank (Some value) → rank ≤ ranks.first key → rank ≤ ranks.last key → IsClear value
  clear_by rank (Const number size) outward leads falls low lower = refl
  clear_by rank (Number size) outward leads falls low lower = refl
  clear_by rank Any outward leads falls low lower = refl
  clear_by rank (Address object offset target) outward leads falls low lower = by_key (nat_eq object key) refl
    where
      at_key : (target : Target) → means_one target ≡ true → leads_to_object parts (Address key offset target) ≡ true → Falls ranks rank (Some (Address key offset target)) → ⊥
      at_key Region one leads falls = no_region offset leads
      at_key First one leads falls = let e : ⊥ = omega arith in e
      at_key Last one leads falls = let e : ⊥ = omega arith in e
      at_key Each one leads falls = false≢true one

      by_key : (b : Bool) → nat_eq object key ≡ b → nat_eq object key ≡ false
      by_key false is = is
      by_key true is =
          let same = eqb-true _ _ is in
          absurd (at_key target outward (subst (λ (k : ℕ). leads_to_object parts (Address k offset target) ≡ true) same leads) (subst (λ (k : ℕ). Falls ranks rank (Some (Address k offset target))) same falls))

  -- through the other end
  pub through_first : (value : Value) → is_outward value ≡ true → leads_to_object parts value ≡ true → Falls ranks (ranks.last key) (Some value) → IsClear next_is.value → IsClear (step value)
  through_first value = step_cases (λ v w. is_outward v ≡ true → leads_to_object parts v ≡ true → Falls ranks (ranks.last key) (Some v) → IsClear next_is.value → IsClear w)
      (λ v differs outward leads falls clear. differs)
      (λ offset outward leads falls clear. moved_to key next_is.value (offset -ℤ pos links.head) ∙ clear)
      (λ offset outward leads falls clear. let e : ⊥ = omega arith in absurd e)
      (λ offset outward leads falls clear. absurd (false≢true outward))
      (λ offset outward leads falls clear. absurd (no_region offset leads)) value

  pub through_last : (value : Value) → is_outward value ≡ true → leads_to_object parts value ≡ true → Falls ranks (ranks.first key) (Some value) → IsClear prev_is.value → IsClear (step value)
  through_last value = step_cases (λ v w. is_outward v ≡ true → leads_to_object parts v ≡ true → Falls ranks (ranks.first key) (Some v) → IsClear prev_is.value → IsClear w)
      (λ v differs outward leads falls clear. differs)
      (λ offset outward leads falls clear. let e : ⊥ = omega arith in absurd e)
      (λ offset outward leads falls clear. moved_to key prev_is.value (offset -ℤ pos links.back) ∙ clear)
      (λ offset outward leads falls clear. absurd (false≢true outward))
      (λ offset outward leads falls clear. absurd (no_region offset leads)) value

  step_moved_clear : (value : Value) (bytes : ℤ) → IsClear value → IsClear (step (moved_value value bytes))
  step_moved_clear value bytes clear = let still = moved_to key value bytes ∙ clear in ap (leads_to key) (step_same (moved_value value bytes) still) ∙ still

  -- one of the two ends has no lower rank than the other one
  pub record AreClear : Type 0 where
    pub next : (bytes : ℤ) → IsClear (step (moved_value next_is.value bytes))
    pub prev : (bytes : ℤ) → IsClear (step (moved_value prev_is.value bytes))
    pub one : IsClear next_is.value ⊎ IsClear prev_is.value

  pub both_clear : AreClear
  both_clear = by_rank (cases_lt (ranks.last key) (ranks.first key))
    where
      by_rank : (ranks.last key < ranks.first key) ⊎ (ranks.first key ≤ ranks.last key) → AreClear
      by_rank (inl less) =
          let clear = clear_by (ranks.last key) prev_is.value prev_is.outward prev_is.leads prev_falls (omega arith) (omega arith) in record {
            next = λ bytes. through_last (moved_value next_is.value bytes) (moved_outward next_is.value bytes next_is.outward) (moved_leads parts next_is.value bytes next_is.leads)
                (moved_falls ranks (ranks.first key) (ranks.first key) next_is.value bytes (omega arith) next_falls) clear;
            prev = λ bytes. step_moved_clear prev_is.value bytes clear;
            one = inr clear;
          }
      by_rank (inr more) =
          let clear = clear_by (ranks.first key) next_is.value next_is.outward next_is.leads next_falls (omega arith) (omega arith) in record {
            next = λ bytes. step_moved_clear next_is.value bytes clear;
            prev = λ bytes. through_first (moved_value prev_is.value bytes) (moved_outward prev_is.value bytes prev_is.outward) (moved_leads parts prev_is.value bytes prev_is.leads)
                (moved_falls ranks (ranks.last key) (ranks.last key) prev_is.value bytes (omega arith) prev_falls) clear;
            one = inl clear;
          }

  -- Both steps.

  abbrev pub emptied : Value → Value
  emptied value = emptied_value parts key links value

  pub emptied_clear : (value : Value) → leads_to_object parts value ≡ true → leads_to key (emptied value) ≡ false
  emptied_clear value = step_cases (λ v w. leads_to_object parts v ≡ true → IsClear (step w))
      (λ v differs leads. ap (leads_to key) (step_same v differs) ∙ differs) (λ offset leads. both_clear.next (offset -ℤ pos links.head)) (λ offset leads. both_clear.prev (offset -ℤ pos links.back))
      (λ offset leads. refl) (λ offset leads. absurd (no_region offset leads)) value

  pub emptied_same : (value : Value) → leads_to key value ≡ false → emptied value ≡ value
  emptied_same value differs = ap step (step_same value differs) ∙ step_same value differs

  pub emptied_leads : (value : Value) → leads_to_object parts value ≡ true → leads_to_object parts (emptied value) ≡ true
  emptied_leads value leads = step_leads (step value) (step_leads value leads)

  pub emptied_outward : (value : Value) → is_outward value ≡ true → is_outward (emptied value) ≡ true
  emptied_outward value is = step_outward (step value) (step_outward value is)

  pub emptied_held : (value : Value) → may_be_held value ≡ true → may_be_held (emptied value) ≡ true
  emptied_held value is = step_held (step value) (step_held value is)

  pub emptied_stands : (home : ℕ) (value : Value) → may_stand_in home value ≡ true → may_stand_in home (emptied value) ≡ true
  emptied_stands home value is = step_stands home (step value) (step_stands home value is)

  pub emptied_size : (value : Value) → value_size (emptied value) ≡ value_size value
  emptied_size value = step_size (step value) ∙ step_size value

  pub emptied_sized : (value : Value) → is_sized value ≡ true → is_sized (emptied value) ≡ true
  emptied_sized value is = step_sized (step value) (step_sized value is)

  pub emptied_falls : (rank : ℕ) (value : Value) → Falls ranks rank (Some value) → Falls ranks rank (Some (emptied value))
  emptied_falls rank value falls = step_falls rank (step value) (step_falls rank value falls)

  -- a number is itself
  number_clear : (size : ℕ) (value : Value) → is_number value size ≡ true → leads_to key value ≡ false
  number_clear size (Const number own) is = refl
  number_clear size (Number own) is = refl
  number_clear size Any is = refl
  number_clear size (Address object offset target) is = absurd (false≢true is)

  pub emptied_number : (size : ℕ) (value : Value) → is_number value size ≡ true → emptied value ≡ value
  emptied_number size value is = emptied_same value (number_clear size value is)

  -- bytes that hold a value get no higher class than its own
  pub emptied_class : (value : Value) → class_for (emptied value) ≤ value_class value
  emptied_class value = step_cases (λ v w. class_for (step w) ≤ value_class v) (λ v differs. step_class v) (λ offset. class_at_most_two (step (moved_value next_is.value (offset -ℤ pos links.head)))) (λ offset. class_at_most_two (step (moved_value prev_is.value (offset -ℤ pos links.back))))
      (λ offset. class_at_most_two (step (Const 0 8))) (λ offset. class_at_most_two (step (Address key offset Region))) value
