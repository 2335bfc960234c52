-- Scalars of static variables that are apart, as the code tells it and as it is meant.
use Rattle.std.proofs.Common.{◌≡◌, zero, suc, ◌+◌, ◌≤◌, ◌⊎◌, inl, inr, List, [], ◌∷◌, true, not, ◌||◌, refl, arith, nat_eq}
use Rattle.std.specs.Prelude.{AllPairs, All, nat_le}
use Rattle.std.specs.List.{list_all}
use Rattle.std.proofs.lemmas.Bool.{and_parts, and_from, or_cases, or_left, or_right, eqb-true, eq-eqb, leb-true, le-leb, not_from_false, ne_eqb, cases_eq, not-true, both_ways}
use Rattle.std.proofs.lemmas.Bool.Decides.{nat_tests}
use Rattle.std.proofs.lemmas.List.Sums.{AllPass-from_list_all, list_all-from_AllPass}
use Rattle.std.proofs.lemmas.List.Elements.{All-weaker}
use Rattle.flow.specs.declared.flow_graph.Initial.{Initial}
use Rattle.flow.specs.Valid.{AreApart}
use Rattle.flow.specs.Deciding.{have_one_range, is_apart, are_apart, comes_before, are_in_order}

before_is_apart : (one other : Initial) → comes_before one other ≡ true → is_apart one other ≡ true
before_is_apart one other h = grind (arith, nat_tests)

before_both : (one other third : Initial) → comes_before one other ≡ true → comes_before other third ≡ true → comes_before one third ≡ true
before_both one other third h k = grind (arith, nat_tests)

-- a scalar that comes before the first of a list in order is apart from each of it
apart_from : (one first : Initial) (rest : List Initial) → comes_before one first ≡ true → are_in_order (first ∷ rest) ≡ true →
    list_all (is_apart one) (first ∷ rest) ≡ true
apart_from one first [] before order = and_from _ _ (before_is_apart one first before) refl
apart_from one first (second ∷ rest) before order =
    let parts = and_parts (comes_before first second) (are_in_order (second ∷ rest)) order in
    and_from _ _ (before_is_apart one first before) (apart_from one second rest (before_both one first second before parts.0) parts.1)

pub in_order_is_apart : (scalars : List Initial) → are_in_order scalars ≡ true → are_apart scalars ≡ true
in_order_is_apart [] order = refl
in_order_is_apart (first ∷ []) order = refl
in_order_is_apart (first ∷ second ∷ rest) order =
    let parts = and_parts (comes_before first second) (are_in_order (second ∷ rest)) order in
    and_from _ _ (apart_from first second rest parts.0 parts.1) (in_order_is_apart (second ∷ rest) parts.1)

-- one pair
pub apart_told : (one other : Initial) → is_apart one other ≡ true → AreApart one other
apart_told one other h = record { apart = λ same. told same (or_cases _ _ h) }
  where
    ranges : (nat_le (one.at + one.size) other.at || nat_le (other.at + other.size) one.at) ≡ true →
        (one.at + one.size ≤ other.at) ⊎ (other.at + other.size ≤ one.at)
    ranges k = elim (or_cases _ _ k) [ inl e ↦ inl (leb-true _ _ e) | inr e ↦ inr (leb-true _ _ e) ]

    told : one.variable ≡ other.variable →
        (not (nat_eq one.variable other.variable) ≡ true)
        ⊎ ((have_one_range one other || (nat_le (one.at + one.size) other.at || nat_le (other.at + other.size) one.at)) ≡ true) →
        ((one.at ≡ other.at) × (one.size ≡ other.size)) ⊎ ((one.at + one.size ≤ other.at) ⊎ (other.at + other.size ≤ one.at))
    told same (inl differ) = absurd (both_ways _ (not-true _ differ) (eq-eqb _ _ same))
    told same (inr k) = elim (or_cases _ _ k) [
      | inl e ↦ (let parts = and_parts (nat_eq one.at other.at) (nat_eq one.size other.size) e in inl (eqb-true _ _ parts.0, eqb-true _ _ parts.1))
      | inr e ↦ inr (ranges e)
    ]

pub told_apart : (one other : Initial) → AreApart one other → is_apart one other ≡ true
told_apart one other h = by_variable (cases_eq one.variable other.variable)
  where
    by_range : ((one.at ≡ other.at) × (one.size ≡ other.size)) ⊎ ((one.at + one.size ≤ other.at) ⊎ (other.at + other.size ≤ one.at)) →
        (have_one_range one other || (nat_le (one.at + one.size) other.at || nat_le (other.at + other.size) one.at)) ≡ true
    by_range (inl (from, size)) = or_left _ _ (and_from _ _ (eq-eqb _ _ from) (eq-eqb _ _ size))
    by_range (inr (inl e)) = or_right _ _ (or_left _ _ (le-leb _ _ e))
    by_range (inr (inr e)) = or_right _ _ (or_right _ _ (le-leb _ _ e))

    by_variable : (one.variable ≡ other.variable) ⊎ (one.variable ≡ other.variable → ⊥) → is_apart one other ≡ true
    by_variable (inl same) = or_right _ _ (by_range (h.apart same))
    by_variable (inr differ) = or_left _ _ (not_from_false _ (ne_eqb _ _ differ))

-- all pairs of a list
pairs_cons : {X : Type 0} (R : X → X → Type 0) (x : X) (xs : List X) → All (R x) xs → AllPairs R xs → AllPairs R (x ∷ xs)
pairs_cons R x xs all pairs zero zero d less below = absurd (omega arith)
pairs_cons R x xs all pairs zero (suc j) d less below = all j d (omega arith)
pairs_cons R x xs all pairs (suc i) zero d less below = absurd (omega arith)
pairs_cons R x xs all pairs (suc i) (suc j) d less below = pairs i j d (omega arith) (omega arith)

pub pairs_told : (scalars : List Initial) → are_apart scalars ≡ true → AllPairs AreApart scalars
pairs_told [] h = λ i j d less below. absurd (omega arith)
pairs_told (first ∷ rest) h =
    let parts = and_parts (list_all (is_apart first) rest) (are_apart rest) h in
    pairs_cons AreApart first rest
    (All-weaker (λ other. is_apart first other ≡ true) (AreApart first) (apart_told first) rest (AllPass-from_list_all (is_apart first) rest parts.0))
    (pairs_told rest parts.1)

pub told_pairs : (scalars : List Initial) → AllPairs AreApart scalars → are_apart scalars ≡ true
told_pairs [] h = refl
told_pairs (first ∷ rest) h = and_from _ _
    (list_all-from_AllPass (is_apart first) rest (λ k d below. told_apart first _ (h 0 (suc k) d (omega arith) (omega arith))))
    (told_pairs rest (λ i j d less below. h (suc i) (suc j) d (omega arith) (omega arith)))
