-- Unequal pairs in which one value stands in place of another.
use Rattle.std.proofs.Common.{◌≡◌, ◌≢◌, ℕ, zero, suc, ◌+◌, ◌≤◌, Bool, true, false, ◌&&◌, not, List, [], ◌∷◌, ◌++◌, length, Some, refl, sym, ◌∙◌, subst, length-append, arith}
use Rattle.std.specs.Prelude.{slice_get, if◌then◌else◌}
use Rattle.std.specs.List.{filter, fold, list_all}
use Rattle.std.proofs.lemmas.Option.{same_Some, none-some}
use Rattle.bytes_core.specs.declared.word.Word.{Word}
use Rattle.graph.specs.declared.parts.Pair.{Pair}
use Rattle.graph.specs.declared.parts.Parts.{Parts}
use Rattle.graph.specs.WellFormed.{is_unequal_pair, differs_from, are_different}
use Rattle.graph.proofs.InOrder.{differs_both}
use Rattle.graph.proofs.Tests.{and_left, and_right, and_both}
use Rattle.changes.proofs.RangeForm.{all_kept, all_append}
use Rattle.changes.specs.Merging.{merged_key, names_key, merged_pair, noted, merged_pairs}

-- pairs with one more, which is none of them
pub different_more : (pairs : List Pair) (pair : Pair) → are_different pairs ≡ true → list_all (differs_from pair) pairs ≡ true → are_different (pairs ++ pair ∷ []) ≡ true
different_more [] pair different fresh = refl
different_more (first ∷ rest) pair different fresh =
    and_both (list_all (differs_from first) (rest ++ pair ∷ [])) (are_different (rest ++ pair ∷ []))
    (all_append (differs_from first) rest (pair ∷ []) (and_left (list_all (differs_from first) rest) (are_different rest) different)
    (and_both (differs_from first pair) true (differs_both pair first (and_left (differs_from pair first) (list_all (differs_from pair) rest) fresh)) refl))
    (different_more rest pair (and_right (list_all (differs_from first) rest) (are_different rest) different) (and_right (differs_from pair first) (list_all (differs_from pair) rest) fresh))

different_kept : (p : Pair → Bool) (pairs : List Pair) → are_different pairs ≡ true → are_different (filter p pairs) ≡ true
different_kept p [] different = refl
different_kept p (first ∷ rest) different = by_test (p first) (different_kept p rest (and_right (list_all (differs_from first) rest) (are_different rest) different))
  where
    by_test : (b : Bool) → are_different (filter p rest) ≡ true → are_different (if b then first ∷ filter p rest else filter p rest) ≡ true
    by_test true later = and_both (list_all (differs_from first) (filter p rest)) (are_different (filter p rest))
        (all_kept p (differs_from first) (differs_from first) (λ other is has. has) rest (and_left (list_all (differs_from first) rest) (are_different rest) different)) later
    by_test false later = later

module _ (parts : Parts) (kept gone : ℕ) where
  abbrev pub step : List Pair → Pair → List Pair
  step done pair = noted parts done (merged_pair kept gone pair)

  -- what holds of pairs that were noted, and of pairs with one more that may be noted
  noted_keeps : (P : List Pair → Type 0) → ((pairs : List Pair) (pair : Pair) → P pairs → is_unequal_pair parts pair ≡ true → list_all (differs_from pair) pairs ≡ true → P (pairs ++ pair ∷ [])) →
      (pairs : List Pair) (pair : Pair) → P pairs → P (noted parts pairs pair)
  noted_keeps P more pairs pair has = by_test (is_unequal_pair parts pair && list_all (differs_from pair) pairs) refl
    where
      by_test : (b : Bool) → (is_unequal_pair parts pair && list_all (differs_from pair) pairs) ≡ b → P (if b then pairs ++ pair ∷ [] else pairs)
      by_test true is = more pairs pair has (and_left (is_unequal_pair parts pair) (list_all (differs_from pair) pairs) is) (and_right (is_unequal_pair parts pair) (list_all (differs_from pair) pairs) is)
      by_test false is = has

  fold_keeps : (P : List Pair → Type 0) → ((pairs : List Pair) (pair : Pair) → P pairs → is_unequal_pair parts pair ≡ true → list_all (differs_from pair) pairs ≡ true → P (pairs ++ pair ∷ [])) →
      (pairs done : List Pair) → P done → P (fold step done pairs)
  fold_keeps P more [] done has = has
  fold_keeps P more (pair ∷ rest) done has = fold_keeps P more rest (step done pair) (noted_keeps P more done (merged_pair kept gone pair) has)

  pub merged_different : (pairs : List Pair) → are_different pairs ≡ true → are_different (merged_pairs parts kept gone pairs) ≡ true
  merged_different pairs different =
      fold_keeps (λ done. are_different done ≡ true) (λ done pair has may fresh. different_more done pair has fresh) (filter (names_key gone) pairs) (filter (λ pair. not (names_key gone pair)) pairs)
      (different_kept (λ pair. not (names_key gone pair)) pairs different)

  pub merged_unequal : (pairs : List Pair) → list_all (is_unequal_pair parts) pairs ≡ true → list_all (is_unequal_pair parts) (merged_pairs parts kept gone pairs) ≡ true
  merged_unequal pairs all =
      fold_keeps (λ done. list_all (is_unequal_pair parts) done ≡ true)
      (λ done pair has may fresh. all_append (is_unequal_pair parts) done (pair ∷ []) has (and_both (is_unequal_pair parts pair) true may refl))
      (filter (names_key gone) pairs) (filter (λ pair. not (names_key gone pair)) pairs)
      (all_kept (λ pair. not (names_key gone pair)) (is_unequal_pair parts) (is_unequal_pair parts) (λ pair is has. has) pairs all)

  -- there are no more of them
  fold_few : (pairs done : List Pair) → length (fold step done pairs) ≤ length done + length pairs
  fold_few [] done = omega arith
  fold_few (pair ∷ rest) done = let later = fold_few rest (step done pair) in let here = one (is_unequal_pair parts (merged_pair kept gone pair) && list_all (differs_from (merged_pair kept gone pair)) done) in omega arith
    where
      one : (b : Bool) → length (if b then done ++ merged_pair kept gone pair ∷ [] else done) ≤ length done + 1
      one true = let e = length-append done (merged_pair kept gone pair ∷ []) in omega arith
      one false = omega arith

  split_long : (p : Pair → Bool) (pairs : List Pair) → length (filter (λ pair. not (p pair)) pairs) + length (filter p pairs) ≡ length pairs
  split_long p [] = refl
  split_long p (pair ∷ rest) = by_test (p pair) (split_long p rest)
    where
      by_test : (b : Bool) → length (filter (λ pair. not (p pair)) rest) + length (filter p rest) ≡ length rest →
          length (if not b then pair ∷ filter (λ pair. not (p pair)) rest else filter (λ pair. not (p pair)) rest) + length (if b then pair ∷ filter p rest else filter p rest) ≡ suc (length rest)
      by_test true later = omega arith
      by_test false later = omega arith

  pub merged_few : (pairs : List Pair) → length (merged_pairs parts kept gone pairs) ≤ length pairs
  merged_few pairs = let few = fold_few (filter (names_key gone) pairs) (filter (λ pair. not (names_key gone pair)) pairs) in let e = split_long (names_key gone) pairs in omega arith

-- Words of pairs.

-- the words of each of these pairs differ
abbrev pub Apart : (ℕ → Word) → List Pair → Type 0
Apart word [] = Unit {0}
Apart word (pair ∷ rest) = (word pair.left ≢ word pair.right) × Apart word rest

pub apart_of : (word : ℕ → Word) (pairs : List Pair) → ((place : ℕ) (pair : Pair) → slice_get pairs place ≡ Some pair → word pair.left ≢ word pair.right) → Apart word pairs
apart_of word [] each = tt
apart_of word (pair ∷ rest) each = (each 0 pair refl, apart_of word rest (λ place found stands. each (suc place) found stands))

pub apart_at : (word : ℕ → Word) (pairs : List Pair) → Apart word pairs → (place : ℕ) (pair : Pair) → slice_get pairs place ≡ Some pair → word pair.left ≢ word pair.right
apart_at word [] apart place pair stands = absurd (none-some pair stands)
apart_at word (first ∷ rest) apart zero pair stands = subst (λ (p : Pair). word p.left ≢ word p.right) (same_Some _ _ stands) apart.0
apart_at word (first ∷ rest) apart (suc place) pair stands = apart_at word rest apart.1 place pair stands

pub apart_more : (word : ℕ → Word) (pairs : List Pair) (pair : Pair) → Apart word pairs → word pair.left ≢ word pair.right → Apart word (pairs ++ pair ∷ [])
apart_more word [] pair apart differ = (differ, tt)
apart_more word (first ∷ rest) pair apart differ = (apart.0, apart_more word rest pair apart.1 differ)

apart_kept : (word : ℕ → Word) (p : Pair → Bool) (pairs : List Pair) → Apart word pairs → Apart word (filter p pairs)
apart_kept word p [] apart = tt
apart_kept word p (pair ∷ rest) apart = by_test (p pair) (apart_kept word p rest apart.1)
  where
    by_test : (b : Bool) → Apart word (filter p rest) → Apart word (if b then pair ∷ filter p rest else filter p rest)
    by_test true later = (apart.0, later)
    by_test false later = later

-- the words of pairs differ still, where that of the value which goes is that of the one which is kept
module _ (parts : Parts) (kept gone : ℕ) (word : ℕ → Word) (same : (key : ℕ) → word key ≡ word (merged_key kept gone key)) where
  apart_noted : (pairs : List Pair) (pair : Pair) → Apart word pairs → word pair.left ≢ word pair.right → Apart word (noted parts pairs pair)
  apart_noted pairs pair apart differ = by_test (is_unequal_pair parts pair && list_all (differs_from pair) pairs)
    where
      by_test : (b : Bool) → Apart word (if b then pairs ++ pair ∷ [] else pairs)
      by_test true = apart_more word pairs pair apart differ
      by_test false = apart

  apart_fold : (pairs done : List Pair) → Apart word done → Apart word pairs → Apart word (fold (λ done pair. noted parts done (merged_pair kept gone pair)) done pairs)
  apart_fold [] done has apart = has
  apart_fold (pair ∷ rest) done has apart =
      apart_fold rest (noted parts done (merged_pair kept gone pair)) (apart_noted done (merged_pair kept gone pair) has (λ equal. apart.0 (same pair.left ∙ equal ∙ sym (same pair.right)))) apart.1

  pub apart_merged : (pairs : List Pair) → Apart word pairs → Apart word (merged_pairs parts kept gone pairs)
  apart_merged pairs apart =
      apart_fold (filter (names_key gone) pairs) (filter (λ pair. not (names_key gone pair)) pairs) (apart_kept word (λ pair. not (names_key gone pair)) pairs apart) (apart_kept word (names_key gone) pairs apart)
