-- Labels at the front of a row, one by one.
use Rattle.std.proofs.Common.{◌≡◌, ℕ, Bool, true, false, if◌then◌else◌, ◌+◌, ◌≤◌, List, [], ◌∷◌, drop, length, length-drop, refl, ap, ◌∙◌, arith}
use Rattle.std.proofs.lemmas.List.{drop-drop}
use Rattle.cgrammar.specs.FrontReadings.{begins_with_label}
use Rattle.cgrammar.specs.Scope.{Names}
use Rattle.cgrammar.specs.Terminals.{Terminal}
use Rattle.cparser.specs.StatementSteps.{labels_length}

label_there : (b : Bool) (n : ℕ) → b ≡ true → (if b then n else 0) ≡ n
label_there true n is = refl
label_there false n is = cc

label_away : (b : Bool) (n : ℕ) → b ≡ false → (if b then n else 0) ≡ 0
label_away true n is = cc
label_away false n is = refl

pub labels_front : (scope : List Names) (row : List Terminal) → begins_with_label scope row ≡ true → labels_length scope row ≡ 2 + labels_length scope (drop 2 row)
unfolding labels_length
labels_front scope [] is = cc
labels_front scope (first ∷ []) is = cc
labels_front scope (first ∷ (second ∷ row)) is = label_there (begins_with_label scope (first ∷ (second ∷ row))) (2 + labels_length scope row) is

pub labels_inside : (scope : List Names) (row : List Terminal) → begins_with_label scope row ≡ true → 2 ≤ length row
labels_inside scope [] is = cc
labels_inside scope (first ∷ []) is = cc
labels_inside scope (first ∷ (second ∷ row)) is = omega arith

pub labels_none : (scope : List Names) (row : List Terminal) → begins_with_label scope row ≡ false → labels_length scope row ≡ 0
unfolding labels_length
labels_none scope [] is = refl
labels_none scope (first ∷ []) is = refl
labels_none scope (first ∷ (second ∷ row)) is = label_away (begins_with_label scope (first ∷ (second ∷ row))) (2 + labels_length scope row) is

-- the labels behind some tokens of a row, one by one
pub labels_behind : (scope : List Names) (row : List Terminal) (count : ℕ) → begins_with_label scope (drop count row) ≡ true
    → labels_length scope (drop count row) ≡ 2 + labels_length scope (drop (count + 2) row)
labels_behind scope row count is =
    labels_front scope (drop count row) is ∙ ap (λ (more : List Terminal). 2 + labels_length scope more) (drop-drop 2 count row)

pub labels_there : (scope : List Names) (row : List Terminal) (count : ℕ) → begins_with_label scope (drop count row) ≡ true → count ≤ length row
    → count + 2 ≤ length row
labels_there scope row count is inside = omega (arith, labels_inside scope (drop count row) is, length-drop count row)
