-- Turns of loops over arguments.
use Rattle.std.proofs.Common.{◌≡◌, ℕ, zero, suc, min, ◌+◌, List, [], ◌∷◌, ◌++◌, length, drop, ◌⊎◌, inl, inr, refl, sym, ap, ◌∙◌, arith}
use Rattle.cbase.specs.declared.tree.expr.Expr.{Expr}
use Rattle.c_machine.specs.declared.kind.Kind.{Kind}
use Rattle.c_machine.specs.declared.kind.Kind.TheVariants.{Void}
use Rattle.lowering.specs.Moves.{Fails, run_of}
use Rattle.lowering.specs.Table.{argument_moves, registers_from}
use Rattle.lowering.specs.Told.{trees}
use Rattle.lowering.proofs.Onward.{Moves}

-- the moves of the arguments behind so many
abbrev pub arguments_from : List Expr → List Kind → ℕ → ℕ → ℕ → Moves
arguments_from args params spare first left = argument_moves (trees Void) (drop left args) (drop left params) spare (first + left)

-- behind the last argument of a parameter
behind_last : (args : List Expr) (params : List Kind) (spare r at : ℕ) → at ≡ min (length args) (length params) →
    ((length args ≡ length params) × (argument_moves (trees Void) (drop at args) (drop at params) spare r ≡ []))
    ⊎ ((length args ≡ length params → ⊥) × (argument_moves (trees Void) (drop at args) (drop at params) spare r ≡ Fails ∷ []))
behind_last [] [] spare r zero last = inl (refl, refl)
behind_last [] [] spare r (suc at) last = absurd (omega (arith, last))
behind_last [] (param ∷ params) spare r zero last = inr ((λ same. absurd (apart (length params) same)), refl)
  where
    apart : (n : ℕ) → 0 ≡ suc n → ⊥
    apart n same = omega (arith, same)
behind_last [] (param ∷ params) spare r (suc at) last = absurd (omega (arith, last))
behind_last (arg ∷ args) [] spare r zero last = inr ((λ same. absurd (apart (length args) same)), refl)
  where
    apart : (n : ℕ) → suc n ≡ 0 → ⊥
    apart n same = omega (arith, same)
behind_last (arg ∷ args) [] spare r (suc at) last = absurd (omega (arith, last))
behind_last (arg ∷ args) (param ∷ params) spare r zero last = absurd (none (length args) (length params) last)
  where
    none : (a b : ℕ) → 0 ≡ min (suc a) (suc b) → ⊥
    none a b last = omega (arith, last)
behind_last (arg ∷ args) (param ∷ params) spare r (suc at) last = onward (behind_last args params spare r at (less (length args) (length params) at last))
  where
    less : (a b at : ℕ) → suc at ≡ min (suc a) (suc b) → at ≡ min a b
    less a b at last = omega (arith, last)

    back : (a b : ℕ) → suc a ≡ suc b → a ≡ b
    back a b same = omega (arith, same)

    onward : ((length args ≡ length params) × (argument_moves (trees Void) (drop at args) (drop at params) spare r ≡ []))
        ⊎ ((length args ≡ length params → ⊥) × (argument_moves (trees Void) (drop at args) (drop at params) spare r ≡ Fails ∷ [])) →
        ((suc (length args) ≡ suc (length params)) × (argument_moves (trees Void) (drop at args) (drop at params) spare r ≡ []))
        ⊎ ((suc (length args) ≡ suc (length params) → ⊥) × (argument_moves (trees Void) (drop at args) (drop at params) spare r ≡ Fails ∷ []))
    onward (inl (same, none)) = inl (ap suc same, none)
    onward (inr (apart, fails)) = inr ((λ same. apart (back (length args) (length params) same)), fails)

pub first_turn : (args : List Expr) (params : List Kind) (spare first at : ℕ) (before after : Moves) → at ≡ min (length args) (length params) →
    (length args ≡ length params → after ≡ before) → ((length args ≡ length params → ⊥) → after ≡ Fails ∷ before) → after ≡ arguments_from args params spare first at ++ before
first_turn args params spare first at before after last alike apart = by_length (behind_last args params spare (first + at) at last)
  where
    by_length : ((length args ≡ length params) × (argument_moves (trees Void) (drop at args) (drop at params) spare (first + at) ≡ []))
        ⊎ ((length args ≡ length params → ⊥) × (argument_moves (trees Void) (drop at args) (drop at params) spare (first + at) ≡ Fails ∷ [])) →
        after ≡ argument_moves (trees Void) (drop at args) (drop at params) spare (first + at) ++ before
    by_length (inl (same, none)) = alike same ∙ sym (ap (λ (front : Moves). front ++ before) none)
    by_length (inr (differ, fails)) = apart differ ∙ sym (ap (λ (front : Moves). front ++ before) fails)

pub from_start : (args : List Expr) (params : List Kind) (spare first left : ℕ) → left ≡ 0 → arguments_from args params spare first left ≡ argument_moves (trees Void) args params spare first
from_start args params spare first left none =
    ap (arguments_from args params spare first) none ∙ ap (argument_moves (trees Void) args params spare) (right_zero first)
  where
    right_zero : (n : ℕ) → n + 0 ≡ n
    right_zero n = omega arith

-- the registers of arguments
pub run_as : (args : List Expr) (first : ℕ) → run_of first (length args) ≡ registers_from first args
run_as [] first = refl
run_as (arg ∷ args) first = ap (λ (registers : List ℕ). first ∷ registers) (run_as args (suc first))
