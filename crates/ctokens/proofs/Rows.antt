-- The row of elements that pass a test at the front of a list, `prefix_len` of them.
use Rattle.std.specs.Prelude.{◌≡◌, ℕ, zero, suc, ◌+◌, ◌≤◌, Bool, true, false, ◌&&◌, List, [], ◌∷◌, ◌++◌, length, take, cond}
use Rattle.std.specs.List.{list_all, prefix_len}
use Rattle.std.proofs.Common.{refl, ap, ◌∙◌, arith}
use Rattle.ctokens.proofs.Choices.{both_true, true_and}

-- a row goes on through elements that all pass
pub prefix_len-append_row : {A : Type 0} (test : A → Bool) (row rest : List A) → list_all test row ≡ true
    → prefix_len test (row ++ rest) ≡ length row + prefix_len test rest
prefix_len-append_row test [] rest passes = omega arith
prefix_len-append_row test (first ∷ others) rest passes =
    let (is_first, are_others) = both_true (test first) (list_all test others) passes in
    let tail = prefix_len-append_row test others rest are_others in
    ap (λ (b : Bool). cond b (1 + prefix_len test (others ++ rest)) 0) is_first ∙ omega (arith, tail)

-- the elements of the row pass
pub list_all-take_row : {A : Type 0} (test : A → Bool) (elements : List A) → list_all test (take (prefix_len test elements) elements) ≡ true
list_all-take_row test [] = refl
list_all-take_row {A} test (first ∷ others) = step (test first) refl (list_all-take_row test others)
  where
    step : (passes : Bool) → test first ≡ passes → list_all test (take (prefix_len test others) others) ≡ true
        → list_all test (take (cond passes (1 + prefix_len test others) 0) (first ∷ others)) ≡ true
    step true is_first tail =
        let one : 1 + prefix_len test others ≡ suc (prefix_len test others) = omega arith in
        rw one (rw is_first tail)
    step false is_first tail = refl

-- a front part of a list that passes lies in the row
pub row_covers : {A : Type 0} (test : A → Bool) (elements : List A) (count : ℕ) → list_all test (take count elements) ≡ true
    → count ≤ length elements → count ≤ prefix_len test elements
row_covers test elements zero passes inside = omega arith
row_covers test [] (suc count) passes inside = absurd (omega arith)
row_covers test (first ∷ others) (suc count) passes inside =
    let (is_first, are_others) = both_true (test first) (list_all test (take count others)) passes in
    let tail = row_covers test others count are_others (omega arith) in
    let here : prefix_len test (first ∷ others) ≡ 1 + prefix_len test others = ap (λ (b : Bool). cond b (1 + prefix_len test others) 0) is_first in
    omega (arith, tail, here)

-- the elements up to a place in the row pass
pub list_all-take_le : {A : Type 0} (test : A → Bool) (elements : List A) (count : ℕ) → count ≤ prefix_len test elements
    → list_all test (take count elements) ≡ true
list_all-take_le test elements zero inside = refl
list_all-take_le test [] (suc count) inside = refl
list_all-take_le {A} test (first ∷ others) (suc count) inside = step (test first) refl inside (list_all-take_le test others count)
  where
    step : (passes : Bool) → test first ≡ passes → suc count ≤ cond passes (1 + prefix_len test others) 0
        → (count ≤ prefix_len test others → list_all test (take count others) ≡ true)
        → (test first && list_all test (take count others)) ≡ true
    step true is_first within tail = true_and (test first) (list_all test (take count others)) is_first (tail (omega arith))
    step false is_first within tail = absurd (omega arith)
