-- The last number that was looked at and the rest decide.
use Rattle.std.proofs.Common.{◌≡◌, ◌∷◌, length}
use Rattle.flow.specs.Valid.{ascend}
use Rattle.flow.proofs.orders.ascend.Given as goal

abbrev pub invariant-loop-next : goal.invariant-loop-next
invariant-loop-next l = ascend (l.last ∷ l.rest) ≡ ascend l.fn.numbers

abbrev pub decreases-loop-next : goal.decreases-loop-next
decreases-loop-next l = length l.rest
