-- Two lists of classes side by side.
use Rattle.std.proofs.Common.{◌≡◌, ℕ, suc, ◌≤◌, Bool, true, false, List, [], ◌∷◌, length, refl, ap, arith}
use Rattle.std.specs.Prelude.{nat_le, IsTrue, ◌↔◌, ◌&&◌}
use Rattle.std.specs.List.{AllZip}
use Rattle.std.proofs.lemmas.Bool.{leb-true, le-leb}
use Rattle.planes.specs.Classes.{highest}
use Rattle.planes.specs.Lanes.{are_at_most}

pub length_highest : (classes others : List ℕ) → length classes ≡ length others → length (highest classes others) ≡ length classes
length_highest [] others same = refl
length_highest (class ∷ classes) [] same = absurd (omega arith)
length_highest (class ∷ classes) (other ∷ others) same = ap suc (length_highest classes others (omega arith))

-- the tests of the pairs, as a relation
both : (class other : ℕ) (classes others : List ℕ) (b : Bool) → nat_le class other ≡ b → (IsTrue (are_at_most classes others) → AllZip (λ class greater. class ≤ greater) classes others) → (b && are_at_most classes others) ≡ true → (class ≤ other) × AllZip (λ class greater. class ≤ greater) classes others
both class other classes others true test rest is = (leb-true class other test, rest is)
both class other classes others false test rest is = absurd (cc)

all_from_test : (classes others : List ℕ) → IsTrue (are_at_most classes others) → AllZip (λ class greater. class ≤ greater) classes others
all_from_test [] [] is = tt
all_from_test [] (other ∷ others) is = absurd (cc)
all_from_test (class ∷ classes) [] is = absurd (cc)
all_from_test (class ∷ classes) (other ∷ others) is = both class other classes others (nat_le class other) refl (all_from_test classes others) is

test_from_all : (classes others : List ℕ) → AllZip (λ class greater. class ≤ greater) classes others → IsTrue (are_at_most classes others)
test_from_all [] [] all = refl
test_from_all [] (other ∷ others) all = absurd all
test_from_all (class ∷ classes) [] all = absurd all
test_from_all (class ∷ classes) (other ∷ others) all =
    let test : nat_le class other ≡ true = le-leb class other all.0 in rw test (test_from_all classes others all.1)

pub at_most_is : (classes others : List ℕ) → IsTrue (are_at_most classes others) ↔ AllZip (λ class greater. class ≤ greater) classes others
at_most_is classes others = (all_from_test classes others, test_from_all classes others)

-- the greater of two classes is above neither, and below what is above both
pub left_at_most : (classes others : List ℕ) → length classes ≡ length others → AllZip (λ class greater. class ≤ greater) classes (highest classes others)
left_at_most [] others same = tt
left_at_most (class ∷ classes) [] same = absurd (omega arith)
left_at_most (class ∷ classes) (other ∷ others) same = (omega arith, left_at_most classes others (omega arith))

pub right_at_most : (classes others : List ℕ) → length classes ≡ length others → AllZip (λ class greater. class ≤ greater) others (highest classes others)
right_at_most [] [] same = tt
right_at_most [] (other ∷ others) same = absurd (omega arith)
right_at_most (class ∷ classes) [] same = absurd (omega arith)
right_at_most (class ∷ classes) (other ∷ others) same = (omega arith, right_at_most classes others (omega arith))

pub highest_at_most : (classes others bounds : List ℕ) → AllZip (λ class greater. class ≤ greater) classes bounds → AllZip (λ class greater. class ≤ greater) others bounds → AllZip (λ class greater. class ≤ greater) (highest classes others) bounds
highest_at_most [] [] [] left right = tt
highest_at_most [] (other ∷ others) [] left right = tt
highest_at_most [] others (bound ∷ bounds) left right = absurd left
highest_at_most (class ∷ classes) others [] left right = absurd left
highest_at_most (class ∷ classes) [] (bound ∷ bounds) left right = absurd right
highest_at_most (class ∷ classes) (other ∷ others) (bound ∷ bounds) left right =
    let low : class ≤ bound = left.0 in
    let low_other : other ≤ bound = right.0 in
    (omega arith, highest_at_most classes others bounds left.1 right.1)
