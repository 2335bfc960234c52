-- The readers of operands leave the row as it is.
use Rattle.std.proofs.Common.{◌≡◌, ℕ, zero, suc, List, Option, None, Some, refl}
use Rattle.cgrammar.specs.Terminals.{Terminal}
use Rattle.cgrammar.specs.declared.reading.starts.OperandStart.{OperandStart}
use Rattle.cgrammar.specs.declared.reading.starts.OperandStart.TheVariants as start
use Rattle.cparser.proofs.KeptRows.{KeepRow}
use Rattle.cparser.proofs.KeptBySteps.{step_rows}
use Rattle.cparser.proofs.KeptByOperators.{expression_from_row}
use Rattle.cparser.proofs.KeptByPostfixes.{as_operand_row, postfixes_from_row}
use Rattle.cparser.proofs.KeptByStatements.{block_row}
use Rattle.cparser.proofs.KeptByTypes.{type_name_row}
use Rattle.cparser.specs.OperandSteps.{unary_alone, path_member, path_index, path, offset_path, offset_of, over_to, over_matched, assert_fail, inner_closed, statement_expression, cast_to, bracket, size_of, plain_with, plain, closed, all_closed, cast}
use Rattle.cparser.specs.State.{State}
use Rattle.cparser.specs.Steps.{Inner}

unary_alone_row : (s : State) → (unary_alone s).row ≡ s.row
unfolding unary_alone
unary_alone_row s = simp step_rows

path_member_row : (s : State) → (path_member s).row ≡ s.row
unfolding path_member
path_member_row s = simp step_rows

path_index_row : (inner : Inner) (s : State) → KeepRow inner → (path_index inner s).row ≡ s.row
unfolding path_index
path_index_row inner s kept = simp step_rows

path_row : (inner : Inner) → KeepRow inner → (count : ℕ) (s : State) → (path inner count s).row ≡ s.row
unfolding path
path_row inner kept zero s = refl
path_row inner kept (suc count) s = simp (step_rows, path_row inner kept count, path_member_row, path_index_row)

offset_path_row : (inner : Inner) (at : ℕ) (s : State) → KeepRow inner → (offset_path inner at s).row ≡ s.row
unfolding offset_path
offset_path_row inner at s kept = simp (step_rows, postfixes_from_row, path_row inner kept)

offset_of_row : (inner : Inner) (at : ℕ) (s : State) → KeepRow inner → (offset_of inner at s).row ≡ s.row
unfolding offset_of
offset_of_row inner at s kept = simp (step_rows, offset_path_row, type_name_row)

over_to_row : (s : State) (found : Option (List Terminal)) → (over_to s found).row ≡ s.row
over_to_row s None = refl
over_to_row s (Some others) = refl

over_matched_row : (s : State) → (over_matched s).row ≡ s.row
unfolding over_matched
over_matched_row s = simp (step_rows, over_to_row)

assert_fail_row : (inner : Inner) (at : ℕ) (s : State) → KeepRow inner → (assert_fail inner at s).row ≡ s.row
unfolding assert_fail
assert_fail_row inner at s kept = simp (step_rows, postfixes_from_row, over_matched_row)

statement_expression_row : (inner : Inner) (at : ℕ) (s : State) → KeepRow inner → (statement_expression inner at s).row ≡ s.row
unfolding statement_expression inner_closed
statement_expression_row inner at s kept = simp (step_rows, postfixes_from_row, block_row)

cast_to_row : (inner : Inner) (at : ℕ) (s : State) → KeepRow inner → (cast_to inner at s).row ≡ s.row
unfolding cast_to
cast_to_row inner at s kept = simp (step_rows, as_operand_row, type_name_row)

bracket_row : (inner : Inner) (at : ℕ) (s : State) → KeepRow inner → (bracket inner at s).row ≡ s.row
unfolding bracket
bracket_row inner at s kept = simp (step_rows, statement_expression_row, cast_to_row)

size_of_row : (inner : Inner) (at : ℕ) (s : State) → KeepRow inner → (size_of inner at s).row ≡ s.row
unfolding size_of
size_of_row inner at s kept = simp (step_rows, as_operand_row, unary_alone_row, type_name_row)

plain_with_row : (inner : Inner) (s : State) (begun : OperandStart) → KeepRow inner → (plain_with inner s begun).row ≡ s.row
plain_with_row inner s start.Bracket kept = simp bracket_row
plain_with_row inner s (start.Count up) kept = simp (step_rows, as_operand_row, unary_alone_row)
plain_with_row inner s (start.Unary op) kept = simp (step_rows, as_operand_row)
plain_with_row inner s start.SizeOf kept = simp size_of_row
plain_with_row inner s start.OffsetOf kept = simp offset_of_row
plain_with_row inner s start.AssertFail kept = simp assert_fail_row
plain_with_row inner s start.Name kept = simp (step_rows, postfixes_from_row)
plain_with_row inner s start.Constant kept = simp (step_rows, postfixes_from_row)
plain_with_row inner s start.Other kept = refl

plain_row : (inner : Inner) (s : State) → KeepRow inner → (plain inner s).row ≡ s.row
unfolding plain
plain_row inner s kept = simp (step_rows, plain_with_row)

pub closed_row : (inner : Inner) (first : ℕ) (s : State) → KeepRow inner → (closed inner first s).row ≡ s.row
unfolding closed
closed_row inner first s kept = simp (step_rows, postfixes_from_row, expression_from_row)

all_closed_row : (inner : Inner) (first : ℕ) → KeepRow inner → (count : ℕ) (s : State) → (all_closed inner first count s).row ≡ s.row
unfolding all_closed
all_closed_row inner first kept zero s = refl
all_closed_row inner first kept (suc count) s = simp (all_closed_row inner first kept count, closed_row)

pub cast_row : (inner : Inner) (s : State) → KeepRow inner → (cast inner s).row ≡ s.row
unfolding cast
cast_row inner s kept = simp (step_rows, plain_row, all_closed_row inner s.at kept)
