-- What the result of a choice by a test says of the test.
use Rattle.std.specs.Prelude.{◌≡◌, ℕ, Bool, true, false, ◌&&◌, ◌||◌, List, [], ◌∷◌, nat_eq, if◌then◌else◌}
use Rattle.std.specs.List.{list_all, list_any}
use Rattle.std.proofs.Common.{refl, ap, ◌∙◌}
use Rattle.std.specs.Str.{bytes_eq}
use Rattle.std.proofs.lemmas.Bool.{eqb-true}
use Rattle.std.proofs.lemmas.Slice.Eq.{bytes_eq-Decides}

-- what follows from each side of a choice follows from the choice
pub from_choice : {A : Type 0} (P : Type 0) (test : Bool) (yes_value no_value value : A)
    → (if test then yes_value else no_value) ≡ value
    → (test ≡ true → yes_value ≡ value → P) → (test ≡ false → no_value ≡ value → P) → P
from_choice P true yes_value no_value value h on_true on_false = on_true refl h
from_choice P false yes_value no_value value h on_true on_false = on_false refl h

pub both_true : (first second : Bool) → (first && second) ≡ true → (first ≡ true) × (second ≡ true)
both_true true second h = (refl, h)
both_true false second h = absurd cc

pub true_and : (first second : Bool) → first ≡ true → second ≡ true → (first && second) ≡ true
true_and first second is_first is_second = rw is_first is_second

pub chosen_yes : {A : Type 0} (test : Bool) (yes_value no_value : A) → test ≡ true → (if test then yes_value else no_value) ≡ yes_value
chosen_yes true yes_value no_value h = refl
chosen_yes false yes_value no_value h = absurd cc

pub chosen_no : {A : Type 0} (test : Bool) (yes_value no_value : A) → test ≡ false → (if test then yes_value else no_value) ≡ no_value
chosen_no true yes_value no_value h = absurd cc
chosen_no false yes_value no_value h = refl

pub false_and : (first second : Bool) → second ≡ false → (first && second) ≡ false
false_and true second h = h
false_and false second h = refl

pub both_false : (first second : Bool) → (first || second) ≡ false → (first ≡ false) × (second ≡ false)
both_false true second h = absurd cc
both_false false second h = (refl, h)

pub false_or : (first second : Bool) → first ≡ false → second ≡ false → (first || second) ≡ false
false_or first second no_first no_second = rw no_first no_second

-- what follows from each of two tests follows from either
pub either_true : (P : Type 0) (first second : Bool) → (first || second) ≡ true → (first ≡ true → P) → (second ≡ true → P) → P
either_true P true second h on_first on_second = on_first refl
either_true P false second h on_first on_second = on_second h

pub or_true : (first second : Bool) → second ≡ true → (first || second) ≡ true
or_true true second h = refl
or_true false second h = h

-- what holds of each number of a list holds of one that equals some of them
pub of_any : (test : ℕ → Bool) (numbers : List ℕ) (number : ℕ) → list_any (nat_eq number) numbers ≡ true → list_all test numbers ≡ true → test number ≡ true
of_any test [] number h all = absurd cc
of_any test (first ∷ others) number h all =
    let (here, later) = both_true (test first) (list_all test others) all in
    either_true (test number ≡ true) (nat_eq number first) (list_any (nat_eq number) others) h
    (λ same. ap test (eqb-true number first same) ∙ here)
    (λ among. of_any test others number among later)

pub of_any_row : (test : List ℕ → Bool) (rows : List (List ℕ)) (row : List ℕ) → list_any (bytes_eq row) rows ≡ true → list_all test rows ≡ true → test row ≡ true
of_any_row test [] row h all = absurd cc
of_any_row test (first ∷ others) row h all =
    let (here, later) = both_true (test first) (list_all test others) all in
    either_true (test row ≡ true) (bytes_eq row first) (list_any (bytes_eq row) others) h
    (λ same. ap test ((bytes_eq-Decides row first).0 same) ∙ here)
    (λ among. of_any_row test others row among later)
