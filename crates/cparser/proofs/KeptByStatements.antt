-- The readers of statements and blocks leave the row as it is.
use Rattle.std.proofs.Common.{◌≡◌, ℕ, Bool, Option, None, Some, refl}
use Rattle.cgrammar.specs.Terminals.{Terminal}
use Rattle.cgrammar.specs.declared.reading.starts.StatementStart.{StatementStart}
use Rattle.cgrammar.specs.declared.reading.starts.StatementStart.TheVariants as start
use Rattle.cparser.proofs.KeptRows.{KeepRow}
use Rattle.cparser.proofs.KeptBySteps.{parts_until_brace_row, step_rows}
use Rattle.cparser.proofs.KeptByDeclarations.{declaration_row}
use Rattle.cparser.specs.State.{State}
use Rattle.cparser.specs.StatementSteps.{block_item, block_items, block, maybe, declared, declared_statement, evaluated, expression_statement, clause, untyped, tested, substatement, otherwise_behind, if_tested, if_behind, while_tested, while_behind, done, do_tested, do_behind, for_closed, for_next, for_behind, broken, break_behind, continued, continue_behind, returned, return_behind, blocked, block_statement, other_statement, statement_with, unlabeled_with, unlabeled, statement, item}
use Rattle.cparser.specs.Steps.{Inner}

block_item_row : (inner : Inner) (s : State) → KeepRow inner → (block_item inner s).row ≡ s.row
unfolding block_item
block_item_row inner s kept = simp step_rows

block_items_row : (inner : Inner) (s : State) → KeepRow inner → (block_items inner s).row ≡ s.row
unfolding block_items
block_items_row inner s kept = simp (parts_until_brace_row (block_item inner) (λ (t : State). block_item_row inner t kept))

pub block_row : (inner : Inner) (s : State) → KeepRow inner → (block inner s).row ≡ s.row
unfolding block
block_row inner s kept = simp (step_rows, block_items_row)

maybe_row : (inner : Inner) (ends : Terminal → Bool) (s : State) → KeepRow inner → (maybe inner ends s).row ≡ s.row
unfolding maybe
maybe_row inner ends s kept = simp step_rows

declared_statement_row : (inner : Inner) (s : State) → KeepRow inner → (declared_statement inner s).row ≡ s.row
unfolding declared_statement declared
declared_statement_row inner s kept = simp (step_rows, declaration_row)

expression_statement_row : (inner : Inner) (s : State) → KeepRow inner → (expression_statement inner s).row ≡ s.row
unfolding expression_statement evaluated
expression_statement_row inner s kept = simp step_rows

pub clause_row : (inner : Inner) (s : State) → KeepRow inner → (clause inner s).row ≡ s.row
unfolding clause
clause_row inner s kept = simp (step_rows, declared_statement_row, expression_statement_row)

untyped_row : (inner : Inner) (s : State) → KeepRow inner → (untyped inner s).row ≡ s.row
unfolding untyped
untyped_row inner s kept = simp step_rows

tested_row : (inner : Inner) (s : State) → KeepRow inner → (tested inner s).row ≡ s.row
unfolding tested
tested_row inner s kept = simp (step_rows, untyped_row)

substatement_row : (inner : Inner) (s : State) → KeepRow inner → (substatement inner s).row ≡ s.row
unfolding substatement
substatement_row inner s kept = simp step_rows

otherwise_behind_row : (inner : Inner) (first close : ℕ) (s : State) → KeepRow inner → (otherwise_behind inner first close s).row ≡ s.row
unfolding otherwise_behind
otherwise_behind_row inner first close s kept = simp (step_rows, substatement_row)

if_behind_row : (inner : Inner) (first : ℕ) (s : State) → KeepRow inner → (if_behind inner first s).row ≡ s.row
unfolding if_behind if_tested
if_behind_row inner first s kept = simp (step_rows, otherwise_behind_row, substatement_row, tested_row)

while_behind_row : (inner : Inner) (first : ℕ) (s : State) → KeepRow inner → (while_behind inner first s).row ≡ s.row
unfolding while_behind while_tested
while_behind_row inner first s kept = simp (step_rows, substatement_row, tested_row)

do_behind_row : (inner : Inner) (first : ℕ) (s : State) → KeepRow inner → (do_behind inner first s).row ≡ s.row
unfolding do_behind do_tested done
do_behind_row inner first s kept = simp (step_rows, substatement_row, tested_row)

for_behind_row : (inner : Inner) (first : ℕ) (s : State) → KeepRow inner → (for_behind inner first s).row ≡ s.row
unfolding for_behind for_next for_closed
for_behind_row inner first s kept = simp (step_rows, substatement_row, maybe_row)

break_behind_row : (first : ℕ) (s : State) → (break_behind first s).row ≡ s.row
unfolding break_behind broken
break_behind_row first s = simp step_rows

continue_behind_row : (first : ℕ) (s : State) → (continue_behind first s).row ≡ s.row
unfolding continue_behind continued
continue_behind_row first s = simp step_rows

return_behind_row : (inner : Inner) (first : ℕ) (s : State) → KeepRow inner → (return_behind inner first s).row ≡ s.row
unfolding return_behind returned
return_behind_row inner first s kept = simp (step_rows, maybe_row)

block_statement_row : (inner : Inner) (s : State) → KeepRow inner → (block_statement inner s).row ≡ s.row
unfolding block_statement blocked
block_statement_row inner s kept = simp (step_rows, block_row)

other_statement_row : (inner : Inner) (s : State) → KeepRow inner → (other_statement inner s).row ≡ s.row
unfolding other_statement
other_statement_row inner s kept = simp (step_rows, clause_row)

statement_with_row : (inner : Inner) (s : State) (first : StatementStart) → KeepRow inner → (statement_with inner s first).row ≡ s.row
statement_with_row inner s start.Block kept = simp block_statement_row
statement_with_row inner s start.If kept = simp if_behind_row
statement_with_row inner s start.While kept = simp while_behind_row
statement_with_row inner s start.Do kept = simp do_behind_row
statement_with_row inner s start.For kept = simp for_behind_row
statement_with_row inner s start.Break kept = simp break_behind_row
statement_with_row inner s start.Continue kept = simp continue_behind_row
statement_with_row inner s start.Return kept = simp return_behind_row
statement_with_row inner s start.Other kept = simp other_statement_row

unlabeled_with_row : (inner : Inner) (s : State) (found : Option StatementStart) → KeepRow inner → (unlabeled_with inner s found).row ≡ s.row
unlabeled_with_row inner s None kept = refl
unlabeled_with_row inner s (Some first) kept = statement_with_row inner s first kept

unlabeled_row : (inner : Inner) (s : State) → KeepRow inner → (unlabeled inner s).row ≡ s.row
unfolding unlabeled
unlabeled_row inner s kept = simp (step_rows, unlabeled_with_row)

pub statement_row : (inner : Inner) (s : State) → KeepRow inner → (statement inner s).row ≡ s.row
unfolding statement
statement_row inner s kept = simp (step_rows, unlabeled_row)

pub item_row : (inner : Inner) (s : State) → KeepRow inner → (item inner s).row ≡ s.row
unfolding item
item_row inner s kept = simp (step_rows, clause_row, statement_row)
