-- What is gathered, and what is handed on behind it.
use Rattle.std.proofs.Common.{◌≡◌, ℕ, drop}
use Rattle.c_text.specs.Rows.{row_at, row_in, or_else}
use Rattle.c_text.proofs.rows.gather_rows.Given as goal

abbrev pub invariant-loop-row : goal.invariant-loop-row
invariant-loop-row l = (number : ℕ) → or_else (row_in number (drop l.row-index l.handed)) (row_at l.rows.items number) ≡ row_in number l.handed
