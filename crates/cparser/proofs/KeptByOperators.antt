-- The readers of operators behind an operand leave the row as it is.
use Rattle.std.proofs.Common.{◌≡◌, ℕ, zero, suc, Option, None, Some, refl}
use Rattle.cbase.specs.declared.tree.operators.BinaryOp.{BinaryOp}
use Rattle.cparser.proofs.KeptRows.{KeepsRow, KeepRow}
use Rattle.cparser.proofs.KeptBySteps.{step_rows}
use Rattle.cparser.specs.OperatorSteps.{operation_with, operations, choice_behind, choice, conditional_from, assignment_with, assignment_from, commas, expression_from}
use Rattle.cparser.specs.State.{State}
use Rattle.cparser.specs.Steps.{Inner}
use Rattle.cparser.specs.declared.point.Point.{Point}

operation_with_row : (go : State → State) → KeepsRow go → (inner : Inner) (loosest : ℕ) (s : State) (found : Option (ℕ × BinaryOp)) → KeepRow inner
    → (operation_with go inner loosest s found).row ≡ s.row
operation_with_row go goes inner loosest s None kept = refl
operation_with_row go goes inner loosest s (Some entry) kept = simp (step_rows, goes)

pub operations_row : (inner : Inner) (loosest : ℕ) → KeepRow inner → (count : ℕ) (s : State) → (operations inner loosest count s).row ≡ s.row
unfolding operations
operations_row inner loosest kept zero s = refl
operations_row inner loosest kept (suc count) s =
    simp (step_rows, operation_with_row (operations inner loosest count) (operations_row inner loosest kept count))

choice_behind_row : (inner : Inner) (point : Point) (at : ℕ) (s : State) → KeepRow inner → (choice_behind inner point at s).row ≡ s.row
unfolding choice_behind
choice_behind_row inner point at s kept = simp step_rows

choice_row : (inner : Inner) (s : State) → KeepRow inner → (choice inner s).row ≡ s.row
unfolding choice
choice_row inner s kept = simp (step_rows, choice_behind_row)

pub conditional_from_row : (inner : Inner) (s : State) → KeepRow inner → (conditional_from inner s).row ≡ s.row
unfolding conditional_from
conditional_from_row inner s kept = simp (choice_row, operations_row inner 0 kept)

assignment_with_row : (inner : Inner) (s : State) (found : Option (Option BinaryOp)) → KeepRow inner → (assignment_with inner s found).row ≡ s.row
assignment_with_row inner s None kept = conditional_from_row inner s kept
assignment_with_row inner s (Some op) kept = simp (step_rows, conditional_from_row)

pub assignment_from_row : (inner : Inner) (s : State) → KeepRow inner → (assignment_from inner s).row ≡ s.row
unfolding assignment_from
assignment_from_row inner s kept = simp (step_rows, assignment_with_row)

commas_row : (inner : Inner) → KeepRow inner → (count : ℕ) (s : State) → (commas inner count s).row ≡ s.row
unfolding commas
commas_row inner kept zero s = refl
commas_row inner kept (suc count) s = simp (step_rows, commas_row inner kept count)

pub expression_from_row : (inner : Inner) (s : State) → KeepRow inner → (expression_from inner s).row ≡ s.row
unfolding expression_from
expression_from_row inner s kept = simp (commas_row inner kept, assignment_from_row)
