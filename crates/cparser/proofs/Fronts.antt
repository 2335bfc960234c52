-- Tokens between two places of a row.
use Rattle.std.specs.Prelude.{◌≡◌, ℕ, ◌-◌, ◌≤◌, List, [], take, drop, length}
use Rattle.std.proofs.Common.{◌∙◌, ap, arith, length-drop}
use Rattle.std.proofs.lemmas.List.{drop_all, take_all}
use Rattle.cparser.specs.State.{State, rest, skipped}

-- none, where the second place is not behind the first
pub none_between : {A : Type 0} (row : List A) (first end : ℕ) → end ≤ first → take (end - first) (drop first row) ≡ []
none_between row first end before =
    let none : end - first ≡ 0 = omega arith in
    ap (λ (n : ℕ). take n (drop first row)) none

-- none, where the first place lies behind the row
pub none_behind : {A : Type 0} (row : List A) (first count : ℕ) → length row ≤ first → take count (drop first row) ≡ []
none_behind row first count behind =
    let nothing : length (drop first row) ≤ count = omega (arith, length-drop first row) in
    take_all count (drop first row) nothing ∙ drop_all first row behind

-- all that is left, where the second place lies behind the row
pub all_behind : {A : Type 0} (row : List A) (first end : ℕ) → length row ≤ end → take (end - first) (drop first row) ≡ drop first row
all_behind row first end behind = take_all (end - first) (drop first row) (omega (arith, length-drop first row))

-- over so many tokens that are there
pub over_found : (s : State) (count : ℕ) → count ≤ length (rest s) → skipped (length (rest s) - length (drop count (rest s))) s ≡ skipped count s
over_found s count there =
    let same : length (rest s) - length (drop count (rest s)) ≡ count = omega (arith, length-drop count (rest s)) in
    ap (λ (n : ℕ). skipped n s) same
