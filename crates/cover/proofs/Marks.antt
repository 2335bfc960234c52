-- Keys that are marked, one value after the other.
use Rattle.std.proofs.Common.{◌≡◌, ℕ, zero, suc, ◌+◌, ◌<◌, ◌≤◌, Bool, true, false, List, [], ◌∷◌, length, nat_eq, Option, None, Some, refl, sym, ◌∙◌, ap, subst, eqb-true, eq-eqb, arith, slice_index_or, slice_set, replicate, ◌⊎◌, inl, inr}
use Rattle.std.specs.Prelude.{◌↔◌}
use Rattle.std.proofs.lemmas.Bool.{false≢true}
use Rattle.std.proofs.lemmas.List.{length-set}
use Rattle.std.proofs.lemmas.Option.{same_Some, none-some}
use Rattle.graph.specs.declared.value.Value.{Value}
use Rattle.graph.specs.declared.value.Value.TheVariants.{Const, Number, Any, Address}
use Rattle.graph.specs.declared.parts.Parts.{Parts}
use Rattle.graph.specs.Maps.{value_at}
use Rattle.graph.specs.Meaning.{Maps, maps_of}
use Rattle.graph.specs.Whole.{IsGraph}
use Rattle.cover.specs.declared.content.Content.{Content}
use Rattle.cover.specs.declared.content.Content.TheVariants.{Fixed, Leads, Kept}
use Rattle.cover.specs.declared.found.Found.{Found}
use Rattle.cover.specs.Covers.{Values, IsIn, Fits}
use Rattle.cover.specs.Found.{pairing_of}
use Rattle.cover.specs.Checked.{AreFitting, AreApartKept, kept_of, Marking}
use Rattle.cover.proofs.Forced.{other-at}
use Rattle.cover.proofs.Living.{value-below}
use Rattle.cover.proofs.Settling.{paired-below}

-- what is put is read again
set-here : (marks : List Bool) (key : ℕ) → key < length marks → slice_index_or (slice_set marks key true) key false ≡ true
set-here [] key within = absurd (omega arith)
set-here (mark ∷ marks) zero within = refl
set-here (mark ∷ marks) (suc key) within = set-here marks key (omega arith)

set-other : (marks : List Bool) (key other : ℕ) → nat_eq key other ≡ false → slice_index_or (slice_set marks key true) other false ≡ slice_index_or marks other false
set-other [] key other differs = refl
set-other (mark ∷ marks) zero zero differs = absurd (false≢true (sym differs ∙ eq-eqb 0 0 refl))
set-other (mark ∷ marks) zero (suc other) differs = refl
set-other (mark ∷ marks) (suc key) zero differs = refl
set-other (mark ∷ marks) (suc key) (suc other) differs = set-other marks key other (differ (nat_eq key other) refl)
  where
    differ : (b : Bool) → nat_eq key other ≡ b → nat_eq key other ≡ false
    differ false is = is
    differ true is = absurd (false≢true (sym differs ∙ eq-eqb (suc key) (suc other) (ap suc (eqb-true key other is))))

kept_is : (o : Option Content) (key : ℕ) → kept_of o ≡ Some key → o ≡ Some (Kept key)
kept_is None key is = absurd (none-some key is)
kept_is (Some (Fixed number size)) key is = absurd (none-some key is)
kept_is (Some (Leads object offset target)) key is = absurd (none-some key is)
kept_is (Some (Kept other)) key is = ap (λ (k : ℕ). Some (Kept k)) (same_Some _ _ is)

same_key : (one other : ℕ) → Kept one ≡ Kept other → one ≡ other
same_key one other equal = ap key_in equal
  where
    key_in : Content → ℕ
    key_in (Fixed number size) = 0
    key_in (Leads object offset target) = 0
    key_in (Kept key) = key

module _ (found : Found) where
  pub marks-start : (marks : List Bool) → ((one key : ℕ) → IsIn (pairing_of found) (Values one (Kept key)) → key < length marks) → ((key : ℕ) → slice_index_or marks key false ≡ false) → Marking found marks 0
  marks-start marks room none = record {
    room = room;
    marked = λ one key below is. absurd (omega arith);
    only = λ key is. absurd (false≢true (sym (none key) ∙ is));
    apart = λ one other key below other_below is other_is. absurd (omega arith);
  }

  pub marks-alone : (marks : List Bool) (at : ℕ) → Marking found marks at → kept_of (slice_index_or found.values.items at None) ≡ None → Marking found marks (at + 1)
  marks-alone marks at marking none = record {
    room = marking.room;
    marked = λ one key below is. marking.marked one key (other-at one at (never one key is) below) is;
    only = λ key is. let old = marking.only key is in let below = old.1 in (old.0, omega arith, old.2);
    apart = λ one other key below other_below is other_is. marking.apart one other key (other-at one at (never one key is) below) (other-at other at (never other key other_is) other_below) is other_is;
  }
    where
      never : (one key : ℕ) → IsIn (pairing_of found) (Values one (Kept key)) → nat_eq one at ≡ false
      never one key is = by_test (nat_eq one at) refl
        where
          by_test : (b : Bool) → nat_eq one at ≡ b → nat_eq one at ≡ false
          by_test false miss = miss
          by_test true hit =
              absurd (none-some key (sym none ∙ ap (λ (k : ℕ). kept_of (slice_index_or found.values.items k None)) (sym (eqb-true one at hit)) ∙ ap kept_of is))

  pub marks-next : (before after : List Bool) (at key : ℕ) → Marking found before at → kept_of (slice_index_or found.values.items at None) ≡ Some key → slice_index_or before key false ≡ false →
      after ≡ slice_set before key true → Marking found after (at + 1)
  marks-next before after at key marking kept unmarked same = record {
    room = λ one k is. subst (λ (n : ℕ). k < n) (sym (ap length same ∙ length-set before key true)) (marking.room one k is);
    marked = λ one k below is. subst (λ (marks : List Bool). slice_index_or marks k false ≡ true) (sym same) (marked one k below is);
    only = λ k is. only k (subst (λ (marks : List Bool). slice_index_or marks k false ≡ true) same is);
    apart = apart;
  }
    where
      here : IsIn (pairing_of found) (Values at (Kept key))
      here = kept_is (slice_index_or found.values.items at None) key kept

      room : key < length before
      room = marking.room at key here

      marked : (one k : ℕ) → one < at + 1 → IsIn (pairing_of found) (Values one (Kept k)) → slice_index_or (slice_set before key true) k false ≡ true
      marked one k below is = by_key (nat_eq key k) refl
        where
          by_key : (b : Bool) → nat_eq key k ≡ b → slice_index_or (slice_set before key true) k false ≡ true
          by_key true hit = subst (λ (n : ℕ). slice_index_or (slice_set before key true) n false ≡ true) (eqb-true key k hit) (set-here before key room)
          by_key false miss = set-other before key k miss ∙ marking.marked one k (by_one (nat_eq one at) refl) is
            where
              by_one : (b : Bool) → nat_eq one at ≡ b → one < at
              by_one false miss' = other-at one at miss' below
              by_one true hit' =
                  let same_is : Kept k ≡ Kept key = same_Some _ _ (sym is ∙ ap (λ (n : ℕ). slice_index_or found.values.items n None) (eqb-true one at hit') ∙ here) in
                  absurd (false≢true (sym miss ∙ eq-eqb key k (sym (same_key k key same_is))))

      only : (k : ℕ) → slice_index_or (slice_set before key true) k false ≡ true → (one : ℕ) × (one < at + 1) × IsIn (pairing_of found) (Values one (Kept k))
      only k is = by_key (nat_eq key k) refl
        where
          by_key : (b : Bool) → nat_eq key k ≡ b → (one : ℕ) × (one < at + 1) × IsIn (pairing_of found) (Values one (Kept k))
          by_key true hit = (at, omega arith, subst (λ (n : ℕ). IsIn (pairing_of found) (Values at (Kept n))) (eqb-true key k hit) here)
          by_key false miss = let old = marking.only k (sym (set-other before key k miss) ∙ is) in let below = old.1 in (old.0, omega arith, old.2)

      -- no value before is paired with this key
      new : (one : ℕ) → one < at → IsIn (pairing_of found) (Values one (Kept key)) → ⊥
      new one below is = false≢true (sym unmarked ∙ marking.marked one key below is)

      apart : (one other k : ℕ) → one < at + 1 → other < at + 1 → IsIn (pairing_of found) (Values one (Kept k)) → IsIn (pairing_of found) (Values other (Kept k)) → one ≡ other
      apart one other k below other_below is other_is = by_test (nat_eq one at) refl (nat_eq other at) refl
        where
          key_of : (n : ℕ) → nat_eq n at ≡ true → IsIn (pairing_of found) (Values n (Kept k)) → k ≡ key
          key_of n hit is = same_key k key (same_Some _ _ (sym is ∙ ap (λ (m : ℕ). slice_index_or found.values.items m None) (eqb-true n at hit) ∙ here))

          by_test : (b : Bool) → nat_eq one at ≡ b → (c : Bool) → nat_eq other at ≡ c → one ≡ other
          by_test true hit true other_hit = eqb-true one at hit ∙ sym (eqb-true other at other_hit)
          by_test true hit false miss =
              absurd (new other (other-at other at miss other_below) (subst (λ (n : ℕ). IsIn (pairing_of found) (Values other (Kept n))) (key_of one hit is) other_is))
          by_test false miss true hit =
              absurd (new one (other-at one at miss below) (subst (λ (n : ℕ). IsIn (pairing_of found) (Values one (Kept n))) (key_of other hit other_is) is))
          by_test false miss false other_miss = marking.apart one other k (other-at one at miss below) (other-at other at other_miss other_below) is other_is

  pub marks-clash : (marks : List Bool) (at key : ℕ) → Marking found marks at → kept_of (slice_index_or found.values.items at None) ≡ Some key → slice_index_or marks key false ≡ true →
      (false ≡ true) ↔ AreApartKept found
  marks-clash marks at key marking kept is_marked = (
    λ e. absurd (false≢true e),
    λ apart.
        let old = marking.only key is_marked in
        let below = old.1 in
        let same = apart old.0 at key old.2 (kept_is (slice_index_or found.values.items at None) key kept) in
        absurd (omega arith),
  )

  pub marks-end : (marks : List Bool) (at : ℕ) → Marking found marks at → length found.values.items ≤ at → (true ≡ true) ↔ AreApartKept found
  marks-end marks at marking all = (
    λ e one other key is other_is.
        let below = paired-below found.values.items one (Kept key) is in
        let other_below = paired-below found.values.items other (Kept key) other_is in
        marking.apart one other key (omega arith) (omega arith) is other_is,
    λ apart. refl,
  )

-- nothing is marked at first
pub none-marked : (count key : ℕ) → slice_index_or (replicate count false) key false ≡ false
none-marked zero key = refl
none-marked (suc count) zero = refl
none-marked (suc count) (suc key) = none-marked count key

abbrev IsKept : Content → Type 0
IsKept (Fixed number size) = ⊥
IsKept (Leads object offset target) = ⊥
IsKept (Kept key) = Unit {0}

-- a key of its own is that of a value of the narrower graph
pub kept-below : (wide : Maps) (narrow : Parts) (found : Found) → IsGraph narrow → AreFitting wide (maps_of narrow) found → (one key : ℕ) → IsIn (pairing_of found) (Values one (Kept key)) → key < length narrow.values
kept-below wide narrow found graph fitting one key is = let at = fitting one (Kept key) is in by_value at.value at.fits
  where
    by_side : (value_at narrow.values key ≡ Some Any) ⊎ (value_at narrow.values key ≡ Some (Number 8)) → key < length narrow.values
    by_side (inl is) = value-below narrow graph key Any is
    by_side (inr is) = value-below narrow graph key (Number 8) is

    by_value : (value : Value) → Fits (maps_of narrow) (pairing_of found) value (Kept key) → key < length narrow.values
    by_value (Const number size) fits = absurd (subst (λ (c : Content). IsKept c) fits tt)
    by_value (Number size) fits = value-below narrow graph key (Number size) fits
    by_value Any fits = by_side fits
    by_value (Address object offset target) fits = absurd (subst (λ (c : Content). IsKept c) fits.is tt)
