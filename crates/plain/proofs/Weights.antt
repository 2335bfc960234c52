-- Weights at numbers of which none stands twice weigh no more than all weights together.
use Rattle.std.proofs.Common.{◌≡◌, ℕ, zero, suc, ◌+◌, ◌≤◌, List, [], ◌∷◌, get_or, refl, ◌∙◌, ap, arith}

-- what stands at these places of a list, together
abbrev pub weighed : List ℕ → List ℕ → ℕ
weighed weights [] = 0
weighed weights (first ∷ rest) = get_or weights first 0 + weighed weights rest

abbrev pub weight : List ℕ → ℕ
weight [] = 0
weight (first ∷ rest) = first + weight rest

-- a number is none of these, and none of them stands twice
abbrev pub IsNoneOf : ℕ → List ℕ → Type 0
IsNoneOf number [] = Unit {0}
IsNoneOf number (first ∷ rest) = (number ≡ first → ⊥) × IsNoneOf number rest

abbrev pub AreOnce : List ℕ → Type 0
AreOnce [] = Unit {0}
AreOnce (first ∷ rest) = IsNoneOf first rest × AreOnce rest

-- nothing weighs at a place any more
abbrev lifted : List ℕ → ℕ → List ℕ
lifted [] place = []
lifted (first ∷ rest) zero = 0 ∷ rest
lifted (first ∷ rest) (suc place) = first ∷ lifted rest place

weight_lifted : (weights : List ℕ) (place : ℕ) → weight weights ≡ get_or weights place 0 + weight (lifted weights place)
weight_lifted [] zero = refl
weight_lifted [] (suc place) = refl
weight_lifted (first ∷ rest) zero = omega arith
weight_lifted (first ∷ rest) (suc place) = let later = weight_lifted rest place in omega arith

other_place : (weights : List ℕ) (gone place : ℕ) → (gone ≡ place → ⊥) → ◌≡◌ {A = ℕ} (get_or (lifted weights gone) place 0) (get_or weights place 0)
other_place [] gone place other = refl
other_place (first ∷ rest) zero zero other = absurd (other refl)
other_place (first ∷ rest) zero (suc place) other = refl
other_place (first ∷ rest) (suc gone) zero other = refl
other_place (first ∷ rest) (suc gone) (suc place) other = other_place rest gone place (λ same. other (ap suc same))

others_weigh : (weights : List ℕ) (gone : ℕ) (places : List ℕ) → IsNoneOf gone places → weighed (lifted weights gone) places ≡ weighed weights places
others_weigh weights gone [] none = refl
others_weigh weights gone (first ∷ rest) (other, none) =
    ap (λ (n : ℕ). n + weighed (lifted weights gone) rest) (other_place weights gone first other) ∙ ap (λ (n : ℕ). get_or weights first 0 + n) (others_weigh weights gone rest none)

pub weigh_less : (places weights : List ℕ) → AreOnce places → weighed weights places ≤ weight weights
weigh_less [] weights once = omega arith
weigh_less (first ∷ rest) weights (none, once) =
    let later : weighed (lifted weights first) rest ≤ weight (lifted weights first) = weigh_less rest (lifted weights first) once in
    let same : weighed (lifted weights first) rest ≡ weighed weights rest = others_weigh weights first rest none in
    let all : weight weights ≡ get_or weights first 0 + weight (lifted weights first) = weight_lifted weights first in
    omega arith
