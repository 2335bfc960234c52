-- Classes of bytes, and bytes that are 0.
use Rattle.std.proofs.Common.{◌≡◌, ℕ, zero, suc, ◌+◌, ◌≤◌, Bool, true, false, List, [], ◌∷◌, ◌++◌, length, take, drop, replicate, nat_eq, refl, sym, ap, eq-eqb, eqb-true, arith}
use Rattle.std.specs.Prelude.{IsTrue, ◌↔◌}
use Rattle.std.specs.List.{All, list_all}
use Rattle.std.proofs.lemmas.List.Elements.{All-nil, All-cons, All-head, All-tail}
use Rattle.planes.specs.Classes.{filled, highest}
use Rattle.graph.proofs.Tests.{and_left, and_right, and_both}

-- Tests of classes, one after another.

both_ways : (a b : Bool) → (a ≡ true → b ≡ true) → (b ≡ true → a ≡ true) → a ≡ b
both_ways true b there back = sym (there refl)
both_ways false true there back = back refl
both_ways false false there back = refl

tests_all : (P : ℕ → Type 0) (test : ℕ → Bool) → ((x : ℕ) → P x → test x ≡ true) → (xs : List ℕ) → All P xs → list_all test xs ≡ true
tests_all P test passes [] all = refl
tests_all P test passes (x ∷ rest) all = and_both (test x) (list_all test rest) (passes x (All-head P x rest all)) (tests_all P test passes rest (All-tail P x rest all))

all_tested : (P : ℕ → Type 0) (test : ℕ → Bool) → ((x : ℕ) → test x ≡ true → P x) → (xs : List ℕ) → list_all test xs ≡ true → All P xs
all_tested P test holds [] all = All-nil P
all_tested P test holds (x ∷ rest) all = All-cons P x rest (holds x (and_left (test x) (list_all test rest) all)) (all_tested P test holds rest (and_right (test x) (list_all test rest) all))

pub all_or_not : (result : Bool) (class : ℕ) (xs : List ℕ) → (IsTrue result ↔ All (λ other. other ≡ class) xs) → result ≡ list_all (nat_eq class) xs
all_or_not result class xs exact =
    both_ways result (list_all (nat_eq class) xs)
    (λ yes'. tests_all (λ other. other ≡ class) (nat_eq class) (λ x same. eq-eqb class x (sym same)) xs (exact.0 yes'))
    (λ all. exact.1 (all_tested (λ other. other ≡ class) (nat_eq class) (λ x same. sym (eqb-true class x same)) xs all))

-- How many classes there are.

pub highest_long : (one other : List ℕ) → length one ≡ length other → length (highest one other) ≡ length one
highest_long [] other same = refl
highest_long (class ∷ one) [] same = absurd (omega arith)
highest_long (class ∷ one) (class' ∷ other) same = ap suc (highest_long one other (omega arith))

long_append : (one other : List ℕ) → length (one ++ other) ≡ length one + length other
long_append [] other = omega arith
long_append (x ∷ one) other = let e = long_append one other in omega arith

long_take : (n : ℕ) (xs : List ℕ) → n ≤ length xs → length (take n xs) ≡ n
long_take zero xs within = refl
long_take (suc n) [] within = absurd (omega arith)
long_take (suc n) (x ∷ xs) within = ap suc (long_take n xs (omega arith))

long_drop : (n : ℕ) (xs : List ℕ) → n ≤ length xs → length (drop n xs) + n ≡ length xs
long_drop zero xs within = omega arith
long_drop (suc n) [] within = absurd (omega arith)
long_drop (suc n) (x ∷ xs) within = let e = long_drop n xs (omega arith) in omega arith

long_replicate : (n class : ℕ) → length (replicate n class) ≡ n
long_replicate zero class = refl
long_replicate (suc n) class = ap suc (long_replicate n class)

pub filled_long : (plane : List ℕ) (from count class : ℕ) → from + count ≤ length plane → length (filled plane from count class) ≡ length plane
filled_long plane from count class within =
    let a = long_append (take from plane ++ replicate count class) (drop (from + count) plane) in
    let b = long_append (take from plane) (replicate count class) in
    let c = long_take from plane (omega arith) in
    let d = long_drop (from + count) plane within in
    let e = long_replicate count class in
    let whole : length (take from plane ++ replicate count class ++ drop (from + count) plane) ≡ length plane = omega arith in whole
