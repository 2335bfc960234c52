-- Tests of classes, one after another.
use Rattle.std.proofs.Common.{◌≡◌, ℕ, ◌≤◌, Bool, true, false, List, [], ◌∷◌, nat_eq, nat_lt, refl, sym, eq-eqb, eqb-true, lt-ltb, ltb-true, arith}
use Rattle.std.specs.Prelude.{IsTrue, ◌↔◌}
use Rattle.std.specs.List.{All, list_all}
use Rattle.std.proofs.lemmas.List.Elements.{All-nil, All-cons, All-head, All-tail}
use Rattle.graph.proofs.Tests.{and_left, and_right, and_both}

both_ways : (a b : Bool) → (a ≡ true → b ≡ true) → (b ≡ true → a ≡ true) → a ≡ b
both_ways true b there back = sym (there refl)
both_ways false true there back = back refl
both_ways false false there back = refl

tests_all : (P : ℕ → Type 0) (test : ℕ → Bool) → ((x : ℕ) → P x → test x ≡ true) → (xs : List ℕ) → All P xs → list_all test xs ≡ true
tests_all P test passes [] all = refl
tests_all P test passes (x ∷ rest) all = and_both (test x) (list_all test rest) (passes x (All-head P x rest all)) (tests_all P test passes rest (All-tail P x rest all))

all_tested : (P : ℕ → Type 0) (test : ℕ → Bool) → ((x : ℕ) → test x ≡ true → P x) → (xs : List ℕ) → list_all test xs ≡ true → All P xs
all_tested P test holds [] all = All-nil P
all_tested P test holds (x ∷ rest) all = All-cons P x rest (holds x (and_left (test x) (list_all test rest) all)) (all_tested P test holds rest (and_right (test x) (list_all test rest) all))

pub all_or_not : (result : Bool) (class : ℕ) (xs : List ℕ) → (IsTrue result ↔ All (λ other. other ≡ class) xs) → result ≡ list_all (nat_eq class) xs
all_or_not result class xs exact =
    both_ways result (list_all (nat_eq class) xs)
    (λ yes'. tests_all (λ other. other ≡ class) (nat_eq class) (λ x same. eq-eqb class x (sym same)) xs (exact.0 yes'))
    (λ all. exact.1 (all_tested (λ other. other ≡ class) (nat_eq class) (λ x same. sym (eqb-true class x same)) xs all))

pub low_or_not : (result : Bool) (xs : List ℕ) → (IsTrue result ↔ All (λ other. other ≤ 1) xs) → result ≡ list_all (λ class. nat_lt class 2) xs
low_or_not result xs exact =
    both_ways result (list_all (λ class. nat_lt class 2) xs)
    (λ yes'. tests_all (λ other. other ≤ 1) (λ class. nat_lt class 2) (λ x low. lt-ltb _ _ (omega (arith, low))) xs (exact.0 yes'))
    (λ all. exact.1 (all_tested (λ other. other ≤ 1) (λ class. nat_lt class 2) (λ x low. let l = ltb-true _ _ low in omega arith) xs all))
