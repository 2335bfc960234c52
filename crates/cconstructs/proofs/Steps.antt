-- The first construct from a token on, by the number of that token and what stands behind it.
use Rattle.std.proofs.Common.{◌≡◌, ℕ, zero, suc, ◌+◌, ◌-◌, ◌<◌, ◌≤◌, refl, ap, sym, ◌∙◌, List, [], ◌∷◌, Option, Some, None, length, take, drop, add-one, arith}
use Rattle.std.proofs.lemmas.List.{drop_all, take_rest}
use Rattle.cgrammar.specs.Terminals.{Terminal}
use Rattle.cconstructs.specs.declared.before.Before.{Before}
use Rattle.cconstructs.specs.Finding.{behind, first_from, found_or, number_at}

next : (row : List Terminal) (count at : ℕ) (before : Before) → count < length row
    → first_from at before (drop count row)
    ≡ found_or at (number_at before (drop count row)) (first_from (at + 1) (behind before (drop count row)) (drop (suc count) row))
unfolding first_from
next [] count at before within = absurd (omega arith)
next (token ∷ row) zero at before within = refl
next (token ∷ row) (suc count) at before within = next row count at before (omega arith)

pub first_next : (row : List Terminal) (at : ℕ) (before : Before) → at < length row
    → first_from at before (drop at row)
    ≡ found_or at (number_at before (drop at row)) (first_from (at + 1) (behind before (drop at row)) (drop (at + 1) row))
first_next row at before within =
    next row at at before within
    ∙ ap (λ (n : ℕ). found_or at (number_at before (drop at row)) (first_from (at + 1) (behind before (drop at row)) (drop n row))) (sym (add-one at))

pub first_none : (row : List Terminal) (at : ℕ) (before : Before) → length row ≤ at → first_from at before (drop at row) ≡ None
unfolding first_from
first_none row at before past = ap (λ (others : List Terminal). first_from at before others) (drop_all at row past)

-- the same of what is left of the row as the code has it
pub first_found : (row : List Terminal) (at number : ℕ) (before : Before) → at < length row → number_at before (take (length row - at) (drop at row)) ≡ Some number
    → first_from at before (drop at row) ≡ Some (record { number = number; at = at })
first_found row at number before within is =
    first_next row at before within
    ∙ ap (λ (o : Option ℕ). found_or at o (first_from (at + 1) (behind before (drop at row)) (drop (at + 1) row)))
    (ap (number_at before) (sym (take_rest row at)) ∙ is)

pub first_later : (row : List Terminal) (at : ℕ) (before next : Before) → at < length row → number_at before (take (length row - at) (drop at row)) ≡ None
    → next ≡ behind before (take (length row - at) (drop at row))
    → first_from (at + 1) next (drop (at + 1) row) ≡ first_from at before (drop at row)
first_later row at before next within is steps =
    ap (λ (b : Before). first_from (at + 1) b (drop (at + 1) row)) (steps ∙ ap (behind before) (take_rest row at))
    ∙ sym (first_next row at before within
    ∙ ap (λ (o : Option ℕ). found_or at o (first_from (at + 1) (behind before (drop at row)) (drop (at + 1) row)))
    (ap (number_at before) (sym (take_rest row at)) ∙ is))
