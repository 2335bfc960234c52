-- The last scalar that was looked at and the rest decide.
use Rattle.std.proofs.Common.{◌≡◌, ◌∷◌, length}
use Rattle.flow.specs.Deciding.{are_in_order}
use Rattle.flow.proofs.initials.are_in_order.Given as goal

abbrev pub invariant-loop-next : goal.invariant-loop-next
invariant-loop-next l = are_in_order (l.last ∷ l.rest) ≡ are_in_order l.fn.scalars

abbrev pub decreases-loop-next : goal.decreases-loop-next
decreases-loop-next l = length l.rest
