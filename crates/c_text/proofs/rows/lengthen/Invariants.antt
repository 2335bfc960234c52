-- Places without a row say nothing.
use Rattle.std.proofs.Common.{◌≡◌, ℕ, ◌+◌, ◌-◌, length}
use Rattle.c_text.specs.Rows.{row_at}
use Rattle.c_text.proofs.rows.lengthen.Given as goal

abbrev pub invariant-loop-rows : goal.invariant-loop-rows
invariant-loop-rows l = (number : ℕ) → row_at l.rows.items number ≡ row_at l.initial.rows.items number

abbrev pub decreases-loop-rows : goal.decreases-loop-rows
decreases-loop-rows l = l.place + 1 - length l.rows.items
