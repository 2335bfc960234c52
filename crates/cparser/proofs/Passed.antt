-- How many items at the front of a list pass a test, where some of them are known to.
use Rattle.std.specs.Prelude.{◌≡◌, ℕ, zero, suc, ◌+◌, ◌≤◌, min, Bool, true, false, cond, List, [], ◌∷◌, take, drop, length}
use Rattle.std.specs.List.{prefix_len}
use Rattle.std.proofs.Common.{arith}

-- those that are known to, and those behind them
rest_of_one : (b : Bool) (whole count rest : ℕ) → suc count ≤ cond b (1 + whole) 0 → (count ≤ whole → whole ≡ count + rest) → cond b (1 + whole) 0 ≡ suc count + rest
rest_of_one true whole count rest within others = omega (arith, others (omega arith))
rest_of_one false whole count rest within others = absurd (omega arith)

pub passed_rest : {A : Type 0} (test : A → Bool) (count : ℕ) (row : List A) → count ≤ prefix_len test row
    → prefix_len test row ≡ count + prefix_len test (drop count row)
passed_rest test zero row within = omega arith
passed_rest test (suc count) [] within = absurd (omega arith)
passed_rest test (suc count) (first ∷ row) within =
    rest_of_one (test first) (prefix_len test row) count (prefix_len test (drop count row)) within (passed_rest test count row)

-- in the front of the list, those that it has
front_of_one : (b : Bool) (whole front count size : ℕ) → suc count ≤ cond b (1 + whole) 0 → (count ≤ whole → min count size ≤ front)
    → min (suc count) (suc size) ≤ cond b (1 + front) 0
front_of_one true whole front count size within others = omega (arith, others (omega arith))
front_of_one false whole front count size within others = absurd (omega arith)

pub passed_front : {A : Type 0} (test : A → Bool) (count size : ℕ) (row : List A) → count ≤ prefix_len test row
    → min count (length (take size row)) ≤ prefix_len test (take size row)
passed_front test count zero row within = omega arith
passed_front test count (suc size) [] within = omega arith
passed_front test zero (suc size) (first ∷ row) within = omega arith
passed_front test (suc count) (suc size) (first ∷ row) within =
    front_of_one (test first) (prefix_len test row) (prefix_len test (take size row)) count (length (take size row)) within (passed_front test count size row)

-- no more in the front than in the list
fewer_of_one : (b : Bool) (whole front : ℕ) → front ≤ whole → cond b (1 + front) 0 ≤ cond b (1 + whole) 0
fewer_of_one true whole front within = omega arith
fewer_of_one false whole front within = omega arith

pub passed_in_front : {A : Type 0} (test : A → Bool) (size : ℕ) (row : List A) → prefix_len test (take size row) ≤ prefix_len test row
passed_in_front test zero row = omega arith
passed_in_front test (suc size) [] = omega arith
passed_in_front test (suc size) (first ∷ row) = fewer_of_one (test first) (prefix_len test row) (prefix_len test (take size row)) (passed_in_front test size row)
