-- What stands at the keys of a folded graph.
use Rattle.std.proofs.Common.{◌≡◌, ℕ, suc, ◌+◌, ◌<◌, ◌≤◌, Bool, true, false, not, cond, List, [], ◌∷◌, map, length, nat_eq, Option, None, Some, refl, sym, ◌∙◌, ap, eq-eqb, eqb-true, arith}
use Rattle.std.specs.Prelude.{slice_get, IsSome, if◌then◌else◌}
use Rattle.std.specs.List.{filter}
use Rattle.std.specs.Option.{option_and_then}
use Rattle.std.proofs.lemmas.Bool.{false≢true, ne_eqb}
use Rattle.fold.specs.declared.fold.Fold.{Fold}
use Rattle.graph.specs.declared.object.Object.{Object}
use Rattle.graph.specs.declared.value.Value.{Value}
use Rattle.graph.specs.declared.value.Value.TheVariants.{Const}
use Rattle.graph.specs.declared.parts.KeyedObject.{KeyedObject}
use Rattle.graph.specs.declared.parts.KeyedValue.{KeyedValue}
use Rattle.graph.specs.declared.parts.Parts.{Parts}
use Rattle.graph.specs.Maps.{object_at, value_at}
use Rattle.graph.specs.Nodes.{node_of}
use Rattle.graph.specs.Renaming.{values_from}
use Rattle.graph.specs.Whole.{IsGraph}
use Rattle.graph.proofs.Found.{found-here, found-later, IsSome-holds}
use Rattle.graph.proofs.Unheld.{found_staying}
use Rattle.changes.specs.Parts.{replaced}
use Rattle.changes.proofs.Objects.{replaced-other, replaced-here}
use Rattle.changes.proofs.Appended.{found_within}
use Rattle.materialise.proofs.SplitRows.{value_from, found_left, found_right, found_past}
use Rattle.fold.specs.Folded.{own_addresses, joined_object, folded_value, with_value_if, folded_values, stands_in, folded_by}
use Rattle.fold.specs.Standing.{others}

-- Values.

none_before : (from : ℕ) (entries : List KeyedValue) → ((place : ℕ) (entry : KeyedValue) → slice_get entries place ≡ Some entry → entry.key ≡ from + place) → (at : ℕ) → at < from → value_at entries at ≡ None
none_before from [] in_place at below = refl
none_before from (entry ∷ rest) in_place at below =
    found-later (λ (entry : KeyedValue). entry.key) (λ entry. entry.value) entry rest at (ne_eqb entry.key at (λ same. let is = in_place 0 entry refl in omega arith))
    ∙ none_before (suc from) rest (λ place other stands. in_place (suc place) other stands ∙ (let e : from + suc place ≡ suc from + place = omega arith in e)) at (omega arith)

folded_found : (fold : Fold) (from : ℕ) (entries : List KeyedValue) → ((place : ℕ) (entry : KeyedValue) → slice_get entries place ≡ Some entry → entry.key ≡ from + place) → (at : ℕ) →
    value_at (folded_values fold entries) at ≡ option_and_then (folded_value fold) (value_at entries at)
folded_found fold from [] in_place at = refl
folded_found fold from (entry ∷ rest) in_place at =
    by_key (nat_eq entry.key at) refl (folded_value fold entry.value) refl
    (folded_found fold (suc from) rest (λ place other stands. in_place (suc place) other stands ∙ (let e : from + suc place ≡ suc from + place = omega arith in e)) at)
  where
    later_in : (place : ℕ) (other : KeyedValue) → slice_get rest place ≡ Some other → other.key ≡ suc from + place
    later_in place other stands = in_place (suc place) other stands ∙ (let e : from + suc place ≡ suc from + place = omega arith in e)

    by_key : (b : Bool) → nat_eq entry.key at ≡ b → (found : Option Value) → folded_value fold entry.value ≡ found →
        value_at (folded_values fold rest) at ≡ option_and_then (folded_value fold) (value_at rest at) →
        value_at (with_value_if entry.key found (folded_values fold rest)) at ≡ option_and_then (folded_value fold) (if b then Some entry.value else value_at rest at)
    by_key true is None becomes later =
        later
        ∙ ap (option_and_then (folded_value fold)) (none_before (suc from) rest later_in at (let k = in_place 0 entry refl in let e = eqb-true _ _ is in omega arith))
        ∙ sym becomes
    by_key true is (Some value) becomes later =
        found-here (λ (entry : KeyedValue). entry.key) (λ entry. entry.value) (record { key = entry.key; value = value }) (folded_values fold rest) at is ∙ sym becomes
    by_key false is None becomes later = later
    by_key false is (Some value) becomes later =
        found-later (λ (entry : KeyedValue). entry.key) (λ entry. entry.value) (record { key = entry.key; value = value }) (folded_values fold rest) at is ∙ later

more_none : (from : ℕ) (values : List Value) (at : ℕ) → at < from → value_at (values_from from values) at ≡ None
more_none from [] at below = refl
more_none from (value ∷ rest) at below =
    found-later (λ (entry : KeyedValue). entry.key) (λ entry. entry.value) (record { key = from; value = value }) (values_from (from + 1) rest) at (ne_eqb from at (λ same. omega arith))
    ∙ more_none (from + 1) rest at (omega arith)

-- Objects.

gone_none : (entries : List KeyedObject) (key : ℕ) → object_at (filter (λ entry. not (nat_eq entry.key key)) entries) key ≡ None
gone_none [] key = refl
gone_none (first ∷ rest) key = by_key (nat_eq first.key key) refl (gone_none rest key)
  where
    by_key : (b : Bool) → nat_eq first.key key ≡ b → object_at (filter (λ entry. not (nat_eq entry.key key)) rest) key ≡ None →
        object_at (cond (not b) (first ∷ filter (λ entry. not (nat_eq entry.key key)) rest) (filter (λ entry. not (nat_eq entry.key key)) rest)) key ≡ None
    by_key true is later = later
    by_key false is later = found-later (λ (entry : KeyedObject). entry.key) (λ entry. entry.object) first (filter (λ entry. not (nat_eq entry.key key)) rest) key is ∙ later

module _ (parts : Parts) (graph : IsGraph parts) (fold : Fold) (one other : Object) (first : object_at parts.objects fold.first ≡ Some one) (differ : nat_eq fold.first fold.second ≡ false) (next_value prev_value : ℕ) where
  abbrev pub after : Parts
  after = folded_by parts fold one other next_value prev_value

  abbrev pub whole : Object
  whole = joined_object parts fold one other next_value prev_value

  abbrev pub owns : List Value
  owns = own_addresses fold.first (stands_in parts fold other) (others fold (node_of one).edges)

  -- objects

  still : (at : ℕ) → nat_eq at fold.second ≡ false → object_at after.objects at ≡ object_at (map (replaced fold.first whole) parts.objects) at
  still at apart = found_staying (λ (entry : KeyedObject). entry.key) (λ entry. entry.object) (λ key. not (nat_eq key fold.second)) (map (replaced fold.first whole) parts.objects) at (ap not apart)

  pub object_second : object_at after.objects fold.second ≡ None
  object_second = gone_none (map (replaced fold.first whole) parts.objects) fold.second

  pub object_first : object_at after.objects fold.first ≡ Some whole
  object_first = still fold.first differ ∙ replaced-here fold.first whole parts.objects (IsSome-holds _ _ first)

  pub object_other : (at : ℕ) → nat_eq at fold.first ≡ false → nat_eq at fold.second ≡ false → object_at after.objects at ≡ object_at parts.objects at
  object_other at apart apart' = still at apart' ∙ replaced-other fold.first whole parts.objects at (λ same. false≢true (sym apart ∙ eq-eqb at fold.first same))

  -- values

  abbrev count : ℕ
  count = length parts.values

  folded_is : (at : ℕ) → value_at (folded_values fold parts.values) at ≡ option_and_then (folded_value fold) (value_at parts.values at)
  folded_is at = folded_found fold 0 parts.values (λ place entry stands. graph.keys.values place entry stands ∙ (let e : place ≡ 0 + place = omega arith in e)) at

  pub past : (at : ℕ) → count ≤ at → value_at parts.values at ≡ None
  past at far = found_past (λ (entry : KeyedValue). entry.key) (λ entry. entry.value) parts.values (λ place entry stands. graph.keys.values place entry stands) at far

  by_folded : (at : ℕ) (found : Option Value) → value_at (folded_values fold parts.values) at ≡ found → (more : Option Value) → value_at (values_from count (Const 0 8 ∷ owns)) at ≡ more → (found ≡ None → more ≡ None) →
      value_at after.values at ≡ found
  by_folded at None is more rest none = found_right (λ (entry : KeyedValue). entry.key) (λ entry. entry.value) (folded_values fold parts.values) (values_from count (Const 0 8 ∷ owns)) at is ∙ rest ∙ none refl
  by_folded at (Some value) is more rest none = found_left (λ (entry : KeyedValue). entry.key) (λ entry. entry.value) (folded_values fold parts.values) (values_from count (Const 0 8 ∷ owns)) at value is

  pub value_old : (at : ℕ) → at < count → value_at after.values at ≡ option_and_then (folded_value fold) (value_at parts.values at)
  value_old at below = by_folded at (option_and_then (folded_value fold) (value_at parts.values at)) (folded_is at) None (more_none count (Const 0 8 ∷ owns) at below) (λ none. refl)

  pub value_more : (place : ℕ) → value_at after.values (count + place) ≡ slice_get (Const 0 8 ∷ owns) place
  value_more place =
      found_right (λ (entry : KeyedValue). entry.key) (λ entry. entry.value) (folded_values fold parts.values) (values_from count (Const 0 8 ∷ owns)) (count + place)
      (folded_is (count + place) ∙ ap (option_and_then (folded_value fold)) (past (count + place) (omega arith)))
      ∙ value_from count (Const 0 8 ∷ owns) place

  pub value_null : value_at after.values count ≡ Some (Const 0 8)
  value_null = ap (value_at after.values) (let e : count ≡ count + 0 = omega arith in e) ∙ value_more 0

  -- a value that was there
  pub value_kept : (at : ℕ) → IsSome (value_at parts.values at) → value_at after.values at ≡ option_and_then (folded_value fold) (value_at parts.values at)
  value_kept at some = value_old at (found_within (λ (entry : KeyedValue). entry.key) (λ entry. entry.value) parts.values (λ place entry stands. graph.keys.values place entry stands) at some)
