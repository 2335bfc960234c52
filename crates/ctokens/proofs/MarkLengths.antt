-- Marks: what is found at the front of a text is the longest.
use Rattle.std.specs.Prelude.{◌≡◌, ℕ, zero, suc, ◌≤◌, ◌<◌, Bool, true, false, List, [], ◌∷◌, length, take, if◌then◌else◌}
use Rattle.std.proofs.Common.{refl, arith}
use Rattle.ctokens.proofs.Choices.{chosen_yes}
use Rattle.ctokens.specs.Marks.{is_mark}
use Rattle.ctokens.specs.Lengths.{single_length, double_length, mark_length}

single_small : (first : ℕ) → single_length first ≤ 1
unfolding single_length
single_small first = step (is_mark (first ∷ []))
  where
    step : (test : Bool) → (if test then 1 else 0) ≤ 1
    step true = omega arith
    step false = omega arith

double_between : (first second : ℕ) → (single_length first ≤ double_length first second) × (double_length first second ≤ 2)
unfolding double_length
double_between first second = step (is_mark (first ∷ (second ∷ [])))
  where
    step : (test : Bool) → (single_length first ≤ (if test then 2 else single_length first)) × ((if test then 2 else single_length first) ≤ 2)
    step true = (omega (arith, single_small first), omega arith)
    step false = (omega arith, omega (arith, single_small first))

triple_between : (first second third : ℕ) (others : List ℕ)
    → (double_length first second ≤ mark_length (first ∷ (second ∷ (third ∷ others)))) × (mark_length (first ∷ (second ∷ (third ∷ others))) ≤ 3)
unfolding mark_length
triple_between first second third others = step (is_mark (first ∷ (second ∷ (third ∷ []))))
  where
    step : (test : Bool) → (double_length first second ≤ (if test then 3 else double_length first second)) × ((if test then 3 else double_length first second) ≤ 3)
    step true = (omega (arith, (double_between first second).1), omega arith)
    step false = (omega arith, omega (arith, (double_between first second).1))

pub mark_length-inside : (text : List ℕ) → mark_length text ≤ length text
unfolding mark_length
mark_length-inside [] = omega arith
mark_length-inside (first ∷ []) = omega (arith, single_small first)
mark_length-inside (first ∷ (second ∷ [])) = omega (arith, (double_between first second).1)
mark_length-inside (first ∷ (second ∷ (third ∷ others))) =
    let small : mark_length (first ∷ (second ∷ (third ∷ others))) ≤ 3 = (triple_between first second third others).1 in omega (arith, small)

single_some : (first : ℕ) → is_mark (first ∷ []) ≡ true → single_length first ≡ 1
unfolding single_length
single_some first h = chosen_yes (is_mark (first ∷ [])) 1 0 h

double_some : (first second : ℕ) → is_mark (first ∷ (second ∷ [])) ≡ true → double_length first second ≡ 2
unfolding double_length
double_some first second h = chosen_yes (is_mark (first ∷ (second ∷ []))) 2 (single_length first) h

triple_some : (first second third : ℕ) (others : List ℕ) → is_mark (first ∷ (second ∷ (third ∷ []))) ≡ true → mark_length (first ∷ (second ∷ (third ∷ others))) ≡ 3
unfolding mark_length
triple_some first second third others h = chosen_yes (is_mark (first ∷ (second ∷ (third ∷ [])))) 3 (double_length first second) h

pub mark_length-most : (text : List ℕ) (count : ℕ) → count ≤ length text → is_mark (take count text) ≡ true → count ≤ mark_length text
unfolding mark_length
mark_length-most text zero inside h = omega arith
mark_length-most [] (suc count) inside h = absurd (omega arith)
mark_length-most (first ∷ []) (suc zero) inside h = omega (arith, single_some first h)
mark_length-most (first ∷ []) (suc (suc count)) inside h = absurd (omega arith)
mark_length-most (first ∷ (second ∷ [])) (suc zero) inside h = omega (arith, single_some first h, (double_between first second).0)
mark_length-most (first ∷ (second ∷ [])) (suc (suc zero)) inside h = omega (arith, double_some first second h)
mark_length-most (first ∷ (second ∷ [])) (suc (suc (suc count))) inside h = absurd (omega arith)
mark_length-most (first ∷ (second ∷ (third ∷ others))) (suc zero) inside h =
    omega (arith, single_some first h, (double_between first second).0, (triple_between first second third others).0)
mark_length-most (first ∷ (second ∷ (third ∷ others))) (suc (suc zero)) inside h =
    omega (arith, double_some first second h, (triple_between first second third others).0)
mark_length-most (first ∷ (second ∷ (third ∷ others))) (suc (suc (suc zero))) inside h = omega (arith, triple_some first second third others h)
mark_length-most (first ∷ (second ∷ (third ∷ []))) (suc (suc (suc (suc count)))) inside h = absurd (omega arith)
mark_length-most (first ∷ (second ∷ (third ∷ (fourth ∷ others)))) (suc (suc (suc (suc count)))) inside h = absurd cc

single_reaches : (first : ℕ) (others : List ℕ) → 0 < single_length first → is_mark (take (single_length first) (first ∷ others)) ≡ true
unfolding single_length
single_reaches first others some = step (is_mark (first ∷ [])) refl some
  where
    step : (test : Bool) → is_mark (first ∷ []) ≡ test → 0 < (if test then 1 else 0) → is_mark (take (if test then 1 else 0) (first ∷ others)) ≡ true
    step true h some = h
    step false h some = absurd (omega arith)

double_reaches : (first second : ℕ) (others : List ℕ) → 0 < double_length first second
    → is_mark (take (double_length first second) (first ∷ (second ∷ others))) ≡ true
unfolding double_length
double_reaches first second others some = step (is_mark (first ∷ (second ∷ []))) refl some
  where
    step : (test : Bool) → is_mark (first ∷ (second ∷ [])) ≡ test → 0 < (if test then 2 else single_length first)
        → is_mark (take (if test then 2 else single_length first) (first ∷ (second ∷ others))) ≡ true
    step true h some = h
    step false h some = single_reaches first (second ∷ others) some

pub mark_length-reaches : (text : List ℕ) → 0 < mark_length text → is_mark (take (mark_length text) text) ≡ true
unfolding mark_length
mark_length-reaches [] some = absurd (omega arith)
mark_length-reaches (first ∷ []) some = single_reaches first [] some
mark_length-reaches (first ∷ (second ∷ [])) some = double_reaches first second [] some
mark_length-reaches (first ∷ (second ∷ (third ∷ others))) some = step (is_mark (first ∷ (second ∷ (third ∷ [])))) refl some
  where
    step : (test : Bool) → is_mark (first ∷ (second ∷ (third ∷ []))) ≡ test → 0 < (if test then 3 else double_length first second)
        → is_mark (take (if test then 3 else double_length first second) (first ∷ (second ∷ (third ∷ others)))) ≡ true
    step true h some = h
    step false h some = double_reaches first second (third ∷ others) some
