-- The rest decides.
use Rattle.std.proofs.Common.{◌≡◌, length}
use Rattle.flow.specs.Valid.{are_distinct}
use Rattle.flow.proofs.orders.are_distinct.Given as goal

abbrev pub invariant-loop-first : goal.invariant-loop-first
invariant-loop-first l = are_distinct l.numbers ≡ are_distinct l.fn.numbers

abbrev pub decreases-loop-first : goal.decreases-loop-first
decreases-loop-first l = length l.numbers
