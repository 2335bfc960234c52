-- Pairs of which one value has another's key: each comes from a pair, and each is among them, if it may be one.
use Rattle.std.proofs.Common.{◌≡◌, ℕ, zero, suc, Bool, true, false, not, ◌&&◌, ◌||◌, List, [], ◌∷◌, ◌++◌, nat_eq, Some, refl, sym, ◌∙◌, ap, subst, eqb-true, ◌⊎◌, inl, inr}
use Rattle.std.specs.Prelude.{slice_get, if◌then◌else◌}
use Rattle.std.specs.List.{filter, fold, list_all}
use Rattle.std.proofs.lemmas.Bool.{false≢true}
use Rattle.std.proofs.lemmas.Option.{same_Some, none-some}
use Rattle.graph.specs.declared.parts.Pair.{Pair}
use Rattle.graph.specs.declared.parts.Parts.{Parts}
use Rattle.graph.specs.WellFormed.{is_unequal_pair, differs_from}
use Rattle.changes.specs.Merging.{merged_key, names_key, merged_pair, noted, merged_pairs}
use Rattle.changes.proofs.MergedNode.{merged_other}

-- an item stands in a list
abbrev pub Stands : {X : Type 0} → List X → X → Type 0
Stands items item = (place : ℕ) × (slice_get items place ≡ Some item)

-- two pairs are of the same two values, in whatever order
abbrev pub SameSides : Pair → Pair → Type 0
SameSides one other = ((one.left ≡ other.left) × (one.right ≡ other.right)) ⊎ ((one.left ≡ other.right) × (one.right ≡ other.left))

kept_get : {X : Type 0} (items : List X) (last : X) (place : ℕ) (item : X) → slice_get items place ≡ Some item → slice_get (items ++ last ∷ []) place ≡ Some item
kept_get [] last place item is = absurd (none-some item is)
kept_get (first ∷ rest) last zero item is = is
kept_get (first ∷ rest) last (suc place) item is = kept_get rest last place item is

last_stands : {X : Type 0} (items : List X) (last : X) → Stands (items ++ last ∷ []) last
last_stands [] last = (0, refl)
last_stands (first ∷ rest) last = let later = last_stands rest last in (suc later.0, later.1)

was_there : {X : Type 0} (items : List X) (last : X) (place : ℕ) (item : X) → slice_get (items ++ last ∷ []) place ≡ Some item → Stands items item ⊎ (item ≡ last)
was_there [] last zero item is = inr (sym (same_Some _ _ is))
was_there [] last (suc place) item is = absurd (none-some item is)
was_there (first ∷ rest) last zero item is = inl (0, is)
was_there (first ∷ rest) last (suc place) item is = by_rest (was_there rest last place item is)
  where
    by_rest : Stands rest item ⊎ (item ≡ last) → Stands (first ∷ rest) item ⊎ (item ≡ last)
    by_rest (inl stands) = inl (suc stands.0, stands.1)
    by_rest (inr same) = inr same

filter_stands : {X : Type 0} (test : X → Bool) (items : List X) (item : X) → Stands items item → test item ≡ true → Stands (filter test items) item
filter_stands test [] item stands passes = absurd (none-some item stands.1)
filter_stands test (first ∷ rest) item (zero, is) passes = by_test (test first) (ap test (same_Some _ _ is) ∙ passes)
  where
    by_test : (b : Bool) → b ≡ true → Stands (if b then first ∷ filter test rest else filter test rest) item
    by_test true same = (0, is)
    by_test false same = absurd (false≢true same)
filter_stands test (first ∷ rest) item (suc place, is) passes = by_test (test first) (filter_stands test rest item (place, is) passes)
  where
    by_test : (b : Bool) → Stands (filter test rest) item → Stands (if b then first ∷ filter test rest else filter test rest) item
    by_test true later = (suc later.0, later.1)
    by_test false later = later

stands_filtered : {X : Type 0} (test : X → Bool) (items : List X) (item : X) → Stands (filter test items) item → Stands items item × (test item ≡ true)
stands_filtered test [] item stands = absurd (none-some item stands.1)
stands_filtered test (first ∷ rest) item stands = by_test (test first) refl stands (λ later. stands_filtered test rest item later)
  where
    behind : Stands rest item × (test item ≡ true) → Stands (first ∷ rest) item × (test item ≡ true)
    behind later = ((suc later.0.0, later.0.1), later.1)

    by_test : (b : Bool) → test first ≡ b → Stands (if b then first ∷ filter test rest else filter test rest) item → (Stands (filter test rest) item → Stands rest item × (test item ≡ true)) → Stands (first ∷ rest) item × (test item ≡ true)
    by_test true is (zero, stands) later = ((0, stands), ap test (sym (same_Some _ _ stands)) ∙ is)
    by_test true is (suc place, stands) later = behind (later (place, stands))
    by_test false is stands later = behind (later stands)

-- where a pair differs from none of some it is one of them, in whatever order
same_found : (pair : Pair) (pairs : List Pair) → list_all (differs_from pair) pairs ≡ false → (other : Pair) × Stands pairs other × SameSides pair other
same_found pair [] all = absurd (false≢true (sym all))
same_found pair (first ∷ rest) all = by_first (differs_from pair first) refl all (λ later. same_found pair rest later)
  where
    sides : (a b c d : Bool) → (not (a && b) && not (c && d)) ≡ false → ((a ≡ true) × (b ≡ true)) ⊎ ((c ≡ true) × (d ≡ true))
    sides true true c d is = inl (refl, refl)
    sides true false true true is = inr (refl, refl)
    sides true false true false is = absurd (false≢true (sym is))
    sides true false false d is = absurd (false≢true (sym is))
    sides false b true true is = inr (refl, refl)
    sides false b true false is = absurd (false≢true (sym is))
    sides false b false d is = absurd (false≢true (sym is))

    same : ((nat_eq pair.left first.left ≡ true) × (nat_eq pair.right first.right ≡ true)) ⊎ ((nat_eq pair.left first.right ≡ true) × (nat_eq pair.right first.left ≡ true)) → SameSides pair first
    same (inl both) = inl (eqb-true _ _ both.0, eqb-true _ _ both.1)
    same (inr both) = inr (eqb-true _ _ both.0, eqb-true _ _ both.1)

    by_first : (b : Bool) → differs_from pair first ≡ b → (b && list_all (differs_from pair) rest) ≡ false → (list_all (differs_from pair) rest ≡ false → (other : Pair) × Stands rest other × SameSides pair other) →
        (other : Pair) × Stands (first ∷ rest) other × SameSides pair other
    by_first true is all later = let found = later all in (found.0, (suc found.1.0, found.1.1), found.2)
    by_first false is all later = (first, (0, refl), same (sides (nat_eq pair.left first.left) (nat_eq pair.right first.right) (nat_eq pair.left first.right) (nat_eq pair.right first.left) is))

module _ (parts : Parts) (kept gone : ℕ) where
  abbrev step : List Pair → Pair → List Pair
  step done pair = noted parts done (merged_pair kept gone pair)

  noted_keeps : (done : List Pair) (pair : Pair) (item : Pair) → Stands done item → Stands (noted parts done pair) item
  noted_keeps done pair item stands = by_test (is_unequal_pair parts pair && list_all (differs_from pair) done)
    where
      by_test : (b : Bool) → Stands (if b then done ++ pair ∷ [] else done) item
      by_test true = (stands.0, kept_get done pair stands.0 item stands.1)
      by_test false = stands

  grows : (pairs done : List Pair) (item : Pair) → Stands done item → Stands (fold step done pairs) item
  grows [] done item stands = stands
  grows (first ∷ rest) done item stands = grows rest (step done first) item (noted_keeps done (merged_pair kept gone first) item stands)

  comes_from : (pairs done : List Pair) (item : Pair) → Stands (fold step done pairs) item → Stands done item ⊎ ((pair : Pair) × Stands pairs pair × (item ≡ merged_pair kept gone pair))
  comes_from [] done item stands = inl stands
  comes_from (first ∷ rest) done item stands = by_later (comes_from rest (step done first) item stands)
    where
      new : merged_pair kept gone first ≡ merged_pair kept gone first
      new = refl

      by_done : (b : Bool) → Stands (if b then done ++ merged_pair kept gone first ∷ [] else done) item → Stands done item ⊎ ((pair : Pair) × Stands (first ∷ rest) pair × (item ≡ merged_pair kept gone pair))
      by_done false there = inl there
      by_done true there = by_last (was_there done (merged_pair kept gone first) there.0 item there.1)
        where
          by_last : Stands done item ⊎ (item ≡ merged_pair kept gone first) → Stands done item ⊎ ((pair : Pair) × Stands (first ∷ rest) pair × (item ≡ merged_pair kept gone pair))
          by_last (inl before) = inl before
          by_last (inr same) = inr (first, (0, refl), same)

      by_later : Stands (step done first) item ⊎ ((pair : Pair) × Stands rest pair × (item ≡ merged_pair kept gone pair)) → Stands done item ⊎ ((pair : Pair) × Stands (first ∷ rest) pair × (item ≡ merged_pair kept gone pair))
      by_later (inl there) = by_done (is_unequal_pair parts (merged_pair kept gone first) && list_all (differs_from (merged_pair kept gone first)) done) there
      by_later (inr (pair, there, same)) = inr (pair, (suc there.0, there.1), same)

  covered : (pairs done : List Pair) (pair : Pair) → Stands pairs pair → is_unequal_pair parts (merged_pair kept gone pair) ≡ true → (other : Pair) × Stands (fold step done pairs) other × SameSides (merged_pair kept gone pair) other
  covered [] done pair stands may = absurd (none-some pair stands.1)
  covered (first ∷ rest) done pair (suc place, stands) may = covered rest (step done first) pair (place, stands) may
  covered (first ∷ rest) done pair (zero, stands) may =
      let there = here (list_all (differs_from new) done) refl in
      (there.0, grows rest (step done first) there.0 (subst (λ (p : Pair). Stands (noted parts done (merged_pair kept gone p)) there.0) (sym is) there.1), there.2)
    where
      is : first ≡ pair
      is = same_Some _ _ stands

      new : Pair
      new = merged_pair kept gone pair

      here : (b : Bool) → list_all (differs_from new) done ≡ b → (other : Pair) × Stands (noted parts done new) other × SameSides new other
      here true all = (
        new,
        subst (λ (b : Bool). Stands (if b then done ++ new ∷ [] else done) new) (sym (ap (λ (b : Bool). b && list_all (differs_from new) done) may ∙ all)) (last_stands done new),
        inl (refl, refl),
      )
      here false some = let found = same_found new done some in (found.0, noted_keeps done new found.0 found.1, found.2)

  -- each pair comes from one
  pub pair_from : (pairs : List Pair) (item : Pair) → Stands (merged_pairs parts kept gone pairs) item → (pair : Pair) × Stands pairs pair × (item ≡ merged_pair kept gone pair)
  pair_from pairs item stands = by_cases (comes_from (filter (names_key gone) pairs) (filter (λ pair. not (names_key gone pair)) pairs) item stands)
    where
      either : (a b : Bool) → not (a || b) ≡ true → (a ≡ false) × (b ≡ false)
      either true b is = absurd (false≢true is)
      either false true is = absurd (false≢true is)
      either false false is = (refl, refl)

      unnamed : (pair : Pair) → not (names_key gone pair) ≡ true → pair ≡ merged_pair kept gone pair
      unnamed pair is =
          let neither = either (nat_eq pair.left gone) (nat_eq pair.right gone) is in
          sym (ap (λ (n : ℕ). pair_of n (merged_key kept gone pair.right)) (merged_other kept gone pair.left neither.0) ∙ ap (pair_of pair.left) (merged_other kept gone pair.right neither.1))
        where
          pair_of : ℕ → ℕ → Pair
          pair_of left right = record { left = left; right = right }

      by_cases : Stands (filter (λ pair. not (names_key gone pair)) pairs) item ⊎ ((pair : Pair) × Stands (filter (names_key gone) pairs) pair × (item ≡ merged_pair kept gone pair)) →
          (pair : Pair) × Stands pairs pair × (item ≡ merged_pair kept gone pair)
      by_cases (inl there) = let found = stands_filtered (λ pair. not (names_key gone pair)) pairs item there in (item, found.0, unnamed item found.1)
      by_cases (inr (pair, there, same)) = (pair, (stands_filtered (names_key gone) pairs pair there).0, same)

  -- and each is among them, if it may be one
  pub pair_to : (pairs : List Pair) (pair : Pair) → Stands pairs pair → is_unequal_pair parts pair ≡ true → (names_key gone pair ≡ true → is_unequal_pair parts (merged_pair kept gone pair) ≡ true) →
      (other : Pair) × Stands (merged_pairs parts kept gone pairs) other × SameSides (merged_pair kept gone pair) other
  pair_to pairs pair stands is may = by_name (names_key gone pair) refl
    where
      either : (a b : Bool) → (a || b) ≡ false → (a ≡ false) × (b ≡ false)
      either true b is = absurd (false≢true (sym is))
      either false true is = absurd (false≢true (sym is))
      either false false is = (refl, refl)

      by_name : (b : Bool) → names_key gone pair ≡ b → (other : Pair) × Stands (merged_pairs parts kept gone pairs) other × SameSides (merged_pair kept gone pair) other
      by_name true named = covered (filter (names_key gone) pairs) (filter (λ pair. not (names_key gone pair)) pairs) pair (filter_stands (names_key gone) pairs pair stands named) (may named)
      by_name false unnamed =
          let neither = either (nat_eq pair.left gone) (nat_eq pair.right gone) unnamed in (
            pair,
            grows (filter (names_key gone) pairs) (filter (λ pair. not (names_key gone pair)) pairs) pair (filter_stands (λ pair. not (names_key gone pair)) pairs pair stands (ap not unnamed)),
            inl (merged_other kept gone pair.left neither.0, merged_other kept gone pair.right neither.1),
          )
