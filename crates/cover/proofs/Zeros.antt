-- Zeros of a plane.
use Rattle.std.proofs.Common.{◌≡◌, ℕ, zero, suc, ◌<◌, ◌≤◌, ◌-◌, Bool, true, false, ◌&&◌, List, [], ◌∷◌, length, take, drop, nat_eq, refl, sym, ◌∙◌, arith, eq-eqb, eqb-true, length-drop}
use Rattle.std.specs.Prelude.{IsTrue, ◌↔◌}
use Rattle.std.specs.List.{All}
use Rattle.std.proofs.lemmas.Bool.{false≢true}
use Rattle.std.proofs.lemmas.List.Elements.{All-head, All-tail, All-nil, All-cons}
use Rattle.graph.proofs.Tests.{and_left, and_right, and_both}
use Rattle.cover.specs.Covers.{are_zeros}

pub zeros-from_most : (count : ℕ) (plane : List ℕ) → count ≤ length plane → All (λ class. class ≤ 0) (take count plane) → are_zeros count plane ≡ true
zeros-from_most zero plane long all = refl
zeros-from_most (suc count) [] long all = absurd (omega arith)
zeros-from_most (suc count) (class ∷ plane) long all =
    let first = All-head (λ class. class ≤ 0) class (take count plane) all in
    and_both (nat_eq class 0) (are_zeros count plane) (eq-eqb class 0 (omega arith)) (zeros-from_most count plane (omega arith) (All-tail (λ class. class ≤ 0) class (take count plane) all))

pub zeros-to_most : (count : ℕ) (plane : List ℕ) → are_zeros count plane ≡ true → All (λ class. class ≤ 0) (take count plane)
zeros-to_most zero plane are = All-nil (λ class. class ≤ 0)
zeros-to_most (suc count) [] are = absurd (false≢true are)
zeros-to_most (suc count) (class ∷ plane) are =
    let first = eqb-true class 0 (and_left (nat_eq class 0) (are_zeros count plane) are) in
    All-cons (λ class. class ≤ 0) class (take count plane) (omega arith) (zeros-to_most count plane (and_right (nat_eq class 0) (are_zeros count plane) are))

pub zeros_short : (count : ℕ) (plane : List ℕ) → length plane < count → are_zeros count plane ≡ false
zeros_short zero plane short = absurd (omega arith)
zeros_short (suc count) [] short = refl
zeros_short (suc count) (class ∷ plane) short = by_first (nat_eq class 0) (zeros_short count plane (omega arith))
  where
    by_first : (b : Bool) → are_zeros count plane ≡ false → (b && are_zeros count plane) ≡ false
    by_first true rest = rest
    by_first false rest = refl

pub zeros_past : (size at : ℕ) (plane : List ℕ) → length plane < at → nat_eq size 0 ≡ are_zeros size (drop at plane)
zeros_past zero at plane above = refl
zeros_past (suc size) at plane above = let e = length-drop at plane in by_test (nat_eq (suc size) 0) refl ∙ sym (zeros_short (suc size) (drop at plane) (omega arith))
  where
    by_test : (b : Bool) → nat_eq (suc size) 0 ≡ b → nat_eq (suc size) 0 ≡ false
    by_test false is = is
    by_test true is = let e = eqb-true _ _ is in absurd (omega arith)

pub zeros_few : (size at : ℕ) (plane : List ℕ) → length plane - at < size → false ≡ are_zeros size (drop at plane)
zeros_few size at plane few = let e = length-drop at plane in sym (zeros_short size (drop at plane) (omega arith))

pub zeros_all : (result : Bool) (size at : ℕ) (plane : List ℕ) → size ≤ length plane - at → (IsTrue result ↔ All (λ class. class ≤ 0) (take size (drop at plane))) → result ≡ are_zeros size (drop at plane)
zeros_all true size at plane long (all, are) = let e = length-drop at plane in sym (zeros-from_most size (drop at plane) (omega arith) (all refl))
zeros_all false size at plane long (all, are) = by_test (are_zeros size (drop at plane)) refl
  where
    by_test : (b : Bool) → are_zeros size (drop at plane) ≡ b → false ≡ are_zeros size (drop at plane)
    by_test false is = sym is
    by_test true is = absurd (false≢true (are (zeros-to_most size (drop at plane) is)))
