-- Sets of numbers below a bound, as tests: one that lies in another is the same or has fewer elements.
use Rattle.std.proofs.Common.{◌≡◌, ℕ, zero, suc, ◌+◌, ◌<◌, ◌≤◌, Bool, true, false, cond, ◌⊎◌, inl, inr, refl, sym, ap, ◌∙◌, arith}
use Rattle.std.proofs.lemmas.Bool.{false≢true, cases_eq}

-- how many numbers below `bound` are in the set
abbrev pub size_below : (ℕ → Bool) → ℕ → ℕ
size_below set zero = 0
size_below set (suc bound) = cond (set bound) 1 0 + size_below set bound

-- each number below `bound` that is in the one set is in the other
pub record IsWithin (one other : ℕ → Bool) (bound : ℕ) : Type 0 where
  pub holds : (number : ℕ) → number < bound → one number ≡ true → other number ≡ true

pub record IsSame (one other : ℕ → Bool) (bound : ℕ) : Type 0 where
  pub holds : (number : ℕ) → number < bound → one number ≡ other number

pub size_below-le : (set : ℕ → Bool) (bound : ℕ) → size_below set bound ≤ bound
size_below-le set zero = omega arith
size_below-le set (suc bound) = by_cases (set bound) (size_below-le set bound)
  where
    by_cases : (last : Bool) → size_below set bound ≤ bound → cond last 1 0 + size_below set bound ≤ suc bound
    by_cases true below = omega arith
    by_cases false below = omega arith

IsWithin-below : (one other : ℕ → Bool) (bound : ℕ) → IsWithin one other (suc bound) → IsWithin one other bound
IsWithin-below one other bound within = record { holds = λ number below. within.holds number (omega arith) }

IsSame-more : (one other : ℕ → Bool) (bound : ℕ) → IsSame one other bound → one bound ≡ other bound → IsSame one other (suc bound)
IsSame-more one other bound same last = record { holds = λ number below. at number below (cases_eq number bound) }
  where
    at : (number : ℕ) → number < suc bound → (number ≡ bound) ⊎ (number ≡ bound → ⊥) → one number ≡ other number
    at number below (inl is) = ap one is ∙ last ∙ ap other (omega arith)
    at number below (inr is_not) = same.holds number (omega arith)

size_below-same : (one other : ℕ → Bool) (bound : ℕ) → IsSame one other bound → size_below one bound ≡ size_below other bound
size_below-same one other zero same = refl
size_below-same one other (suc bound) same =
    let below = size_below-same one other bound (record { holds = λ number below. same.holds number (omega arith) }) in
    rw (same.holds bound (omega arith), below)

-- a set that lies in another is the same, or it has fewer elements
pub same_or_fewer : (one other : ℕ → Bool) (bound : ℕ) → IsWithin one other bound →
    IsSame one other bound ⊎ (size_below one bound + 1 ≤ size_below other bound)
same_or_fewer one other zero within = inl (record { holds = λ number below. absurd (omega arith) })
same_or_fewer one other (suc bound) within =
    by_cases (one bound) (other bound) refl refl (λ in_one. within.holds bound (omega arith) in_one)
    (same_or_fewer one other bound (IsWithin-below one other bound within))
  where
    by_cases : (in_one in_other : Bool) → one bound ≡ in_one → other bound ≡ in_other → (one bound ≡ true → other bound ≡ true) →
        IsSame one other bound ⊎ (size_below one bound + 1 ≤ size_below other bound) →
        IsSame one other (suc bound) ⊎ (cond (one bound) 1 0 + size_below one bound + 1 ≤ cond (other bound) 1 0 + size_below other bound)
    by_cases true false is_one is_other passes below = absurd (false≢true (sym is_other ∙ passes is_one))
    by_cases false true is_one is_other passes (inl same) = inr (rw (is_one, is_other) (let e = size_below-same one other bound same in omega arith))
    by_cases false true is_one is_other passes (inr fewer) = inr (rw (is_one, is_other) (omega arith))
    by_cases true true is_one is_other passes (inl same) = inl (IsSame-more one other bound same (is_one ∙ sym is_other))
    by_cases true true is_one is_other passes (inr fewer) = inr (rw (is_one, is_other) (omega arith))
    by_cases false false is_one is_other passes (inl same) = inl (IsSame-more one other bound same (is_one ∙ sym is_other))
    by_cases false false is_one is_other passes (inr fewer) = inr (rw (is_one, is_other) (omega arith))
