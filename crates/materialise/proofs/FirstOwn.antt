-- The values that are each node's own address, and those that a region has in place of them.
use Rattle.std.proofs.Common.{◌≡◌, ℕ, suc, ◌+◌, ◌<◌, Bool, true, false, List, [], ◌∷◌, map, nat_eq, ℤ, Some, refl, sym, ◌∙◌, ap, subst, eqb-true, arith}
use Rattle.std.specs.Prelude.{slice_get, if◌then◌else◌}
use Rattle.std.specs.List.{filter, list_any}
use Rattle.std.proofs.lemmas.Bool.{false≢true, eq-eqb, ne_eqb}
use Rattle.std.proofs.lemmas.Option.{none-some, same_Some}
use Rattle.graph.specs.declared.value.Target.TheVariants.{Region, Each}
use Rattle.graph.specs.declared.value.Value.{Value}
use Rattle.graph.specs.declared.value.Value.TheVariants.{Const, Number, Any, Address}
use Rattle.graph.specs.declared.parts.KeyedValue.{KeyedValue}
use Rattle.graph.specs.Maps.{value_at}
use Rattle.graph.specs.Renaming.{place_among}
use Rattle.graph.proofs.Found.{found-here, found-later}
use Rattle.materialise.specs.SplitFirst.{is_own, at_region}
use Rattle.materialise.proofs.FirstKeys.{AllOf}

module _ (region key : ℕ) where
  abbrev owns : List KeyedValue → List KeyedValue
  owns entries = filter (λ entry. is_own key entry.value) entries

  abbrev keys : List KeyedValue → List ℕ
  keys entries = map (λ entry. entry.key) (owns entries)

  abbrev regions : List KeyedValue → List Value
  regions entries = map (λ entry. at_region region entry.value) (owns entries)

  -- an own address is among them, and the region's stands at its place
  pub own_among : (entries : List KeyedValue) (at : ℕ) (offset : ℤ) → value_at entries at ≡ Some (Address key offset Each) →
      (list_any (nat_eq at) (keys entries) ≡ true) × (slice_get (regions entries) (place_among (keys entries) at) ≡ Some (Address region offset Region))
  own_among [] at offset is = absurd (none-some (Address key offset Each) is)
  own_among (first ∷ rest) at offset is = by_key (nat_eq first.key at) refl (λ later. own_among rest at offset later)
    where
      by_own : nat_eq at first.key ≡ false → (b : Bool) → is_own key first.value ≡ b →
          (list_any (nat_eq at) (keys rest) ≡ true) × (slice_get (regions rest) (place_among (keys rest) at) ≡ Some (Address region offset Region)) →
          (list_any (nat_eq at) (keys (first ∷ rest)) ≡ true) × (slice_get (regions (first ∷ rest)) (place_among (keys (first ∷ rest)) at) ≡ Some (Address region offset Region))
      by_own other true own later =
          (rw own (rw other later.0), rw own (rw other (ap (slice_get (at_region region first.value ∷ regions rest)) (let e : 1 + place_among (keys rest) at ≡ suc (place_among (keys rest) at) = omega arith in e) ∙ later.1)))
      by_own other false own later = (rw own later.0, rw own later.1)

      by_key : (b : Bool) → nat_eq first.key at ≡ b →
          (value_at rest at ≡ Some (Address key offset Each) → (list_any (nat_eq at) (keys rest) ≡ true) × (slice_get (regions rest) (place_among (keys rest) at) ≡ Some (Address region offset Region))) →
          (list_any (nat_eq at) (keys (first ∷ rest)) ≡ true) × (slice_get (regions (first ∷ rest)) (place_among (keys (first ∷ rest)) at) ≡ Some (Address region offset Region))
      by_key true hit later =
          let value : first.value ≡ Address key offset Each = same_Some _ _ (sym (found-here (λ (entry : KeyedValue). entry.key) (λ entry. entry.value) first rest at hit) ∙ is) in
          let own : is_own key first.value ≡ true = ap (is_own key) value ∙ ap (λ (b : Bool). if b then true else false) (eq-eqb key key refl) in
          let same : nat_eq at first.key ≡ true = eq-eqb at first.key (sym (eqb-true _ _ hit)) in
          (rw own (rw same refl), rw own (rw same (ap (λ (v : Value). Some (at_region region v)) value)))
      by_key false miss later =
          let other : nat_eq at first.key ≡ false = ne_eqb at first.key (λ same. false≢true (sym miss ∙ eq-eqb first.key at (sym same))) in
          by_own other (is_own key first.value) refl (later (sym (found-later (λ (entry : KeyedValue). entry.key) (λ entry. entry.value) first rest at miss) ∙ is))

  -- keys that are places
  abbrev From : ℕ → List KeyedValue → Type 0
  From from entries = (place : ℕ) (entry : KeyedValue) → slice_get entries place ≡ Some entry → entry.key ≡ from + place

  from_next : (from : ℕ) (first : KeyedValue) (rest : List KeyedValue) → From from (first ∷ rest) → From (from + 1) rest
  from_next from first rest places place entry is = let e : entry.key ≡ from + suc place = places (suc place) entry is in omega arith

  none_below : (from at : ℕ) (entries : List KeyedValue) → From from entries → at < from → list_any (nat_eq at) (keys entries) ≡ false
  none_below from at [] places below = refl
  none_below from at (first ∷ rest) places below = by_own (is_own key first.value) refl (none_below (from + 1) at rest (from_next from first rest places) (omega arith))
    where
      other : nat_eq at first.key ≡ false
      other = ne_eqb at first.key (λ same. let e : first.key ≡ from + 0 = places 0 first refl in absurd (omega arith))

      by_own : (b : Bool) → is_own key first.value ≡ b → list_any (nat_eq at) (keys rest) ≡ false → list_any (nat_eq at) (keys (first ∷ rest)) ≡ false
      by_own true own later = rw own (rw other later)
      by_own false own later = rw own later

  -- another value is not among them
  pub own_absent : (from : ℕ) (entries : List KeyedValue) (at : ℕ) (value : Value) → From from entries → value_at entries at ≡ Some value → is_own key value ≡ false → list_any (nat_eq at) (keys entries) ≡ false
  own_absent from [] at value places is plain = refl
  own_absent from (first ∷ rest) at value places is plain = by_key (nat_eq first.key at) refl (λ later. own_absent (from + 1) rest at value (from_next from first rest places) later plain)
    where
      by_own : nat_eq at first.key ≡ false → (b : Bool) → is_own key first.value ≡ b → list_any (nat_eq at) (keys rest) ≡ false → list_any (nat_eq at) (keys (first ∷ rest)) ≡ false
      by_own other true own later = rw own (rw other later)
      by_own other false own later = rw own later

      by_key : (b : Bool) → nat_eq first.key at ≡ b → (value_at rest at ≡ Some value → list_any (nat_eq at) (keys rest) ≡ false) → list_any (nat_eq at) (keys (first ∷ rest)) ≡ false
      by_key true hit later =
          let same : first.value ≡ value = same_Some _ _ (sym (found-here (λ (entry : KeyedValue). entry.key) (λ entry. entry.value) first rest at hit) ∙ is) in
          let own : is_own key first.value ≡ false = ap (is_own key) same ∙ plain in
          let key_is : first.key ≡ from + 0 = places 0 first refl in
          let at_is : first.key ≡ at = eqb-true _ _ hit in
          rw own (none_below (from + 1) at rest (from_next from first rest places) (omega arith))
      by_key false miss later =
          let other : nat_eq at first.key ≡ false = ne_eqb at first.key (λ same. false≢true (sym miss ∙ eq-eqb first.key at (sym same))) in
          by_own other (is_own key first.value) refl (later (sym (found-later (λ (entry : KeyedValue). entry.key) (λ entry. entry.value) first rest at miss) ∙ is))

  own_is : (value : Value) → is_own key value ≡ true → (offset : ℤ) × (at_region region value ≡ Address region offset Region)
  own_is (Const number size) own = absurd (false≢true own)
  own_is (Number size) own = absurd (false≢true own)
  own_is Any own = absurd (false≢true own)
  own_is (Address object offset target) own = (offset, refl)

  -- what holds of each address of the region at an offset holds of those in place of own addresses
  pub regions_all : (P : Value → Type 0) → ((offset : ℤ) → P (Address region offset Region)) → (entries : List KeyedValue) → AllOf P (regions entries)
  regions_all P each [] = tt
  regions_all P each (first ∷ rest) = by_own (is_own key first.value) refl (regions_all P each rest)
    where
      by_own : (b : Bool) → is_own key first.value ≡ b → AllOf P (regions rest) → AllOf P (regions (first ∷ rest))
      by_own true own later = let it = own_is first.value own in rw own (subst (λ (v : Value). P v) (sym it.1) (each it.0), later)
      by_own false own later = rw own later
