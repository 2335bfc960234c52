-- Brackets around expressions, one by one.
use Rattle.std.specs.Prelude.{◌≡◌, ℕ, zero, suc, ◌+◌, ◌-◌, ◌<◌, Bool, true, false, if◌then◌else◌, List, [], ◌∷◌, drop}
use Rattle.std.proofs.Common.{refl, sym, ap, ◌∙◌, arith, add-one}
use Rattle.cgrammar.specs.Scope.{Names}
use Rattle.cgrammar.specs.Terminals.{Terminal}
use Rattle.cparser.specs.OperandSteps.{opened, opens_row, closed, all_closed}
use Rattle.cparser.specs.State.{State}
use Rattle.cparser.specs.Steps.{Inner}

-- the first one, and those behind it
pub opened_row : (scope : List Names) (row : List Terminal) → opened scope row ≡ (if opens_row scope row then 1 + opened scope (drop 1 row) else 0)
unfolding opened
opened_row scope [] = refl
opened_row scope (first ∷ row) = refl

drop_one : (at : ℕ) (row : List Terminal) → drop 1 (drop at row) ≡ drop (suc at) row
drop_one zero row = refl
drop_one (suc at) [] = refl
drop_one (suc at) (first ∷ row) = drop_one at row

pub opened_one : (scope : List Names) (row : List Terminal) (at : ℕ) → opens_row scope (drop at row) ≡ true
    → at + opened scope (drop at row) ≡ at + 1 + opened scope (drop (at + 1) row)
opened_one scope row at here =
    let one : opened scope (drop at row) ≡ 1 + opened scope (drop 1 (drop at row)) =
    opened_row scope (drop at row) ∙ ap (λ (b : Bool). if b then 1 + opened scope (drop 1 (drop at row)) else 0) here in
    let behind : opened scope (drop 1 (drop at row)) ≡ opened scope (drop (at + 1) row) =
    ap (opened scope) (drop_one at row ∙ ap (λ (n : ℕ). drop n row) (sym (add-one at))) in
    omega arith

pub opened_none : (scope : List Names) (row : List Terminal) → opens_row scope row ≡ false → opened scope row ≡ 0
opened_none scope row none = opened_row scope row ∙ ap (λ (b : Bool). if b then 1 + opened scope (drop 1 row) else 0) none

-- the innermost of those that are open
pub closed_one : (inner : Inner) (first left : ℕ) (s : State) → 0 < left
    → all_closed inner first left s ≡ all_closed inner first (left - 1) (closed inner (first + (left - 1)) s)
unfolding all_closed
closed_one inner first zero s some = absurd (omega arith)
closed_one inner first (suc left) s some =
    let same : left ≡ suc left - 1 = omega arith in
    ap (λ (n : ℕ). all_closed inner first n (closed inner (first + n) s)) same

pub closed_none : (inner : Inner) (first left : ℕ) (s : State) → left ≡ 0 → all_closed inner first left s ≡ s
unfolding all_closed
closed_none inner first left s none = ap (λ (n : ℕ). all_closed inner first n s) none
