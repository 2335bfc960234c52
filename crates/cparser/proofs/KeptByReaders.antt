-- The readers of what stands in a tree leave the row as it is, whatever is wanted.
use Rattle.std.proofs.Common.{◌≡◌, ℕ, zero, suc, Bool, true, false, if◌then◌else◌, List, refl, sym, ap, ◌∙◌}
use Rattle.cparser.proofs.KeptRows.{KeepRow, chosen_rows}
use Rattle.cparser.proofs.KeptByDeclarations.{initializer_row}
use Rattle.cparser.proofs.KeptByOperands.{closed_row, cast_row}
use Rattle.cparser.proofs.KeptByOperators.{operations_row, conditional_from_row, assignment_from_row, expression_from_row}
use Rattle.cparser.proofs.KeptByPostfixes.{postfix_at_row}
use Rattle.cparser.proofs.KeptBySteps.{mark_row, whole_row}
use Rattle.cparser.proofs.KeptByStatements.{clause_row, statement_row, item_row}
use Rattle.cparser.proofs.KeptByTypes.{specifier_row}
use Rattle.cparser.proofs.Turns.{Turns}
use Rattle.cparser.specs.OperandSteps.{postfix_at, postfix_turn, closed}
use Rattle.cparser.specs.OperatorSteps.{expression_from}
use Rattle.cparser.specs.ReadingSteps.{reads, reads_with, inner_at}
use Rattle.cparser.specs.State.{State}
use Rattle.cparser.specs.Steps.{Inner, mark, whole}
use Rattle.cparser.specs.declared.wanted.Wanted.{Wanted}
use Rattle.cparser.specs.declared.wanted.Wanted.TheVariants as wanted

reads_with_row : (inner : Inner) (part : Wanted) (s : State) → KeepRow inner → (reads_with inner part s).row ≡ s.row
reads_with_row inner wanted.Cast s kept = cast_row inner s kept
reads_with_row inner (wanted.Operation loosest) s kept = simp (operations_row inner loosest kept, cast_row)
reads_with_row inner wanted.Conditional s kept = simp (conditional_from_row, cast_row)
reads_with_row inner wanted.Assignment s kept = simp (assignment_from_row, cast_row)
reads_with_row inner wanted.Expression s kept = simp (expression_from_row, cast_row)
reads_with_row inner wanted.Specifier s kept = specifier_row inner s kept
reads_with_row inner wanted.Initializer s kept = initializer_row inner s kept
reads_with_row inner wanted.Clause s kept = clause_row inner s kept
reads_with_row inner wanted.Statement s kept = statement_row inner s kept
reads_with_row inner wanted.Item s kept = item_row inner s kept

reads_row : (most : ℕ) (part : Wanted) (s : State) → (reads most part s).row ≡ s.row
unfolding reads
reads_row zero part s = refl
reads_row (suc most) part s = reads_with_row (inner_at most) part s (reads_row most)

-- one operator behind an operand
postfix_kept : (most first : ℕ) (s : State) → (postfix_at (inner_at most) first s).row ≡ s.row
postfix_kept most first s = postfix_at_row (inner_at most) first s (reads_row most)

turn_row : (most first : ℕ) (s : State) → (postfix_turn (inner_at most) first (λ (t : State). t) s).row ≡ s.row
turn_row most first s = simp (chosen_rows, postfix_kept)

either_same : (again : Bool) (s : State) → (if again then s else s) ≡ s
either_same true s = refl
either_same false s = refl

-- a turn of operators behind an operand
pub turn_kept : (most first : ℕ) (old new : State) (again : Bool) → Turns (postfix_turn (inner_at most) first) old new again → new.row ≡ old.row
turn_kept most first old new again turns =
    ap (λ (s : State). s.row) (sym (either_same again new) ∙ sym (turns (λ (t : State). t))) ∙ turn_row most first old

-- the rest of an expression in brackets, up to the operators behind them, step by step
pub bracket_kept : (most : ℕ) (bytes : List ℕ) (s t u v w : State) → t ≡ whole s → u ≡ expression_from (inner_at most) t → v ≡ whole u → w ≡ mark bytes v
    → w.row ≡ s.row
bracket_kept most bytes s t u v w begun read whole_again closed =
    ap (λ (x : State). x.row) closed ∙ (mark_row bytes v
    ∙ (ap (λ (x : State). x.row) whole_again ∙ (whole_row u
    ∙ (ap (λ (x : State). x.row) read ∙ (expression_from_row (inner_at most) t (reads_row most)
    ∙ (ap (λ (x : State). x.row) begun ∙ whole_row s))))))

-- the same, with the operators behind them
pub closed_kept : (most first : ℕ) (s : State) → (closed (inner_at most) first s).row ≡ s.row
closed_kept most first s = closed_row (inner_at most) first s (reads_row most)
