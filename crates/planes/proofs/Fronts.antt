-- How many bytes at the front pass a test, and what that says of all of them.
use Rattle.std.proofs.Common.{◌≡◌, ℕ, suc, ◌+◌, ◌-◌, ◌<◌, ◌≤◌, Bool, true, false, List, [], ◌∷◌, length, get_or, drop, refl, ap, sym, ◌∙◌, arith, length-drop, eq-eqb, eqb-true}
use Rattle.std.specs.Prelude.{nat_le, nat_eq, All, ◌↔◌}
use Rattle.std.specs.List.{prefix_len}
use Rattle.std.proofs.lemmas.Bool.{leb-true, le-leb, leb-false}
use Rattle.std.proofs.lemmas.List.{get_or-drop}
use Rattle.std.proofs.lemmas.List.Elements.{All-cons, All-nil, All-head, All-tail}
use Rattle.std.proofs.lemmas.List.Sums.{prefix_len_passes, prefix_len_stops, prefix_len-le-length}
use Rattle.planes.specs.Classes.{IsFirstAbove}
use Rattle.planes.specs.Lanes.{low_front, same_front}

all_by : (p : ℕ → Bool) (P : ℕ → Type 0) (x : ℕ) (xs : List ℕ) (b : Bool) → p x ≡ b → (b ≡ true → P x) → (prefix_len p xs ≡ length xs → All P xs) → prefix_len p (x ∷ xs) ≡ suc (length xs) → All P (x ∷ xs)
all_by p P x xs true is holds rest long =
    let more : prefix_len p (x ∷ xs) ≡ 1 + prefix_len p xs = rw is refl in All-cons P x xs (holds refl) (rest (omega arith))
all_by p P x xs false is holds rest long =
    let none : prefix_len p (x ∷ xs) ≡ 0 = rw is refl in absurd (omega arith)

front_all : (p : ℕ → Bool) (P : ℕ → Type 0) → ((x : ℕ) → p x ≡ true → P x) → (xs : List ℕ) → prefix_len p xs ≡ length xs → All P xs
front_all p P holds [] long = All-nil P
front_all p P holds (x ∷ xs) long = all_by p P x xs (p x) refl (holds x) (front_all p P holds xs) long

all_front : (p : ℕ → Bool) (P : ℕ → Type 0) → ((x : ℕ) → P x → p x ≡ true) → (xs : List ℕ) → All P xs → prefix_len p xs ≡ length xs
all_front p P holds [] all = refl
all_front p P holds (x ∷ xs) all =
    let here : p x ≡ true = holds x (All-head P x xs all) in
    let more : prefix_len p (x ∷ xs) ≡ 1 + prefix_len p xs = rw here refl in
    let rest : prefix_len p xs ≡ length xs = all_front p P holds xs (All-tail P x xs all) in
    omega arith

pub all_low : (class : ℕ) (xs : List ℕ) → (low_front class xs ≡ length xs) ↔ All (λ other. other ≤ class) xs
all_low class xs = (
  front_all (λ other. nat_le other class) (λ other. other ≤ class) (λ other. leb-true other class) xs,
  all_front (λ other. nat_le other class) (λ other. other ≤ class) (λ other. le-leb other class) xs,
)

pub all_same : (class : ℕ) (xs : List ℕ) → (same_front class xs ≡ length xs) ↔ All (λ other. other ≡ class) xs
all_same class xs = (
  front_all (λ other. nat_eq other class) (λ other. other ≡ class) (λ other. eqb-true other class) xs,
  all_front (λ other. nat_eq other class) (λ other. other ≡ class) (λ other. eq-eqb other class) xs,
)

-- the first byte above a class, from a place on
pub first_above_is : (classes : List ℕ) (from class at : ℕ) → at ≡ from + low_front class (drop from classes) → at < length classes → IsFirstAbove classes from class at
first_above_is classes from class at is inside =
    let p : ℕ → Bool = λ other. nat_le other class in
    let rest : List ℕ = drop from classes in
    let long : length rest ≡ length classes - from = length-drop from classes in
    let here : get_or rest (prefix_len p rest) 0 ≡ get_or classes at 0 = get_or-drop from classes (prefix_len p rest) 0 ∙ ap (λ n. get_or classes n 0) (sym is) in
    record {
      behind = omega arith;
      inside = inside;
      above = let stops : nat_le (get_or rest (prefix_len p rest) 0) class ≡ false = prefix_len_stops p rest 0 (omega arith) in
          omega (arith, leb-false _ _ stops);
      first = λ other after before.
          let passes : nat_le (get_or rest (other - from) 0) class ≡ true = prefix_len_passes p rest (other - from) 0 (omega arith) in
          let place : from + (other - from) ≡ other = omega arith in
          let same : get_or rest (other - from) 0 ≡ get_or classes other 0 = get_or-drop from classes (other - from) 0 ∙ ap (λ n. get_or classes n 0) place in
          omega (arith, leb-true _ _ passes);
    }

pub some_above : (classes : List ℕ) (from class at : ℕ) → at ≡ from + low_front class (drop from classes) → at < length classes → All (λ other. other ≤ class) (drop from classes) → ⊥
some_above classes from class at is inside all =
    let whole : low_front class (drop from classes) ≡ length (drop from classes) = (all_low class (drop from classes)).1 all in
    omega (arith, length-drop from classes)

pub none_above : (classes : List ℕ) (from class at : ℕ) → at ≡ from + low_front class (drop from classes) → length classes ≤ at → from ≤ length classes → All (λ other. other ≤ class) (drop from classes)
none_above classes from class at is outside within =
    (all_low class (drop from classes)).0
    (omega (arith, length-drop from classes, prefix_len-le-length (λ other. nat_le other class) (drop from classes)))
