-- The readers of operators behind the front of an operand leave the row as it is.
use Rattle.std.proofs.Common.{◌≡◌, ℕ, zero, suc, Bool, refl}
use Rattle.cgrammar.specs.ReadTypes.{never}
use Rattle.cgrammar.specs.declared.reading.starts.PostfixStart.{PostfixStart}
use Rattle.cgrammar.specs.declared.reading.starts.PostfixStart.TheVariants as start
use Rattle.cparser.proofs.KeptRows.{KeepRow}
use Rattle.cparser.proofs.KeptBySteps.{parts_row, step_rows}
use Rattle.cparser.specs.OperandSteps.{as_operand, index_behind, argument, arguments, call_behind, member_behind, postfix_with, postfix_at, postfixes, postfixes_from}
use Rattle.cparser.specs.State.{State}
use Rattle.cparser.specs.Steps.{Inner}
use Rattle.cparser.specs.declared.point.Point.{Point}

pub as_operand_row : (unary : Bool) (s : State) → (as_operand unary s).row ≡ s.row
unfolding as_operand
as_operand_row unary s = simp step_rows

index_behind_row : (inner : Inner) (point : Point) (at : ℕ) (s : State) → KeepRow inner → (index_behind inner point at s).row ≡ s.row
unfolding index_behind
index_behind_row inner point at s kept = simp step_rows

argument_row : (inner : Inner) (s : State) → KeepRow inner → (argument inner s).row ≡ s.row
unfolding argument
argument_row inner s kept = simp step_rows

arguments_row : (inner : Inner) (s : State) → KeepRow inner → (arguments inner s).row ≡ s.row
unfolding arguments
arguments_row inner s kept = simp (step_rows, parts_row never (argument inner) (λ (t : State). argument_row inner t kept))

call_behind_row : (inner : Inner) (point : Point) (at : ℕ) (s : State) → KeepRow inner → (call_behind inner point at s).row ≡ s.row
unfolding call_behind
call_behind_row inner point at s kept = simp (step_rows, arguments_row)

member_behind_row : (through : Bool) (point : Point) (at : ℕ) (s : State) → (member_behind through point at s).row ≡ s.row
unfolding member_behind
member_behind_row through point at s = simp step_rows

postfix_with_row : (inner : Inner) (first : ℕ) (s : State) (begun : PostfixStart) → KeepRow inner → (postfix_with inner first s begun).row ≡ s.row
postfix_with_row inner first s start.Index kept = simp index_behind_row
postfix_with_row inner first s start.Call kept = simp call_behind_row
postfix_with_row inner first s (start.Member through) kept = simp member_behind_row
postfix_with_row inner first s (start.Count up) kept = simp step_rows
postfix_with_row inner first s start.Other kept = refl

pub postfix_at_row : (inner : Inner) (first : ℕ) (s : State) → KeepRow inner → (postfix_at inner first s).row ≡ s.row
unfolding postfix_at
postfix_at_row inner first s kept = simp (step_rows, postfix_with_row)

postfixes_row : (inner : Inner) (first : ℕ) → KeepRow inner → (count : ℕ) (s : State) → (postfixes inner first count s).row ≡ s.row
unfolding postfixes
postfixes_row inner first kept zero s = refl
postfixes_row inner first kept (suc count) s = simp (step_rows, postfixes_row inner first kept count, postfix_at_row)

pub postfixes_from_row : (inner : Inner) (first : ℕ) (s : State) → KeepRow inner → (postfixes_from inner first s).row ≡ s.row
unfolding postfixes_from
postfixes_from_row inner first s kept = simp (step_rows, as_operand_row, postfixes_row inner first kept)
