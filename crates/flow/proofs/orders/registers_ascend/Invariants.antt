-- The last register that was looked at and the rest decide.
use Rattle.std.proofs.Common.{◌≡◌, ◌∷◌, length, map}
use Rattle.flow.specs.Valid.{ascend}
use Rattle.flow.proofs.orders.registers_ascend.Given as goal

abbrev pub invariant-loop-next : goal.invariant-loop-next
invariant-loop-next l = ascend (map (λ width. width.register) (l.last ∷ l.rest)) ≡ ascend (map (λ width. width.register) l.fn.widths)

abbrev pub decreases-loop-next : goal.decreases-loop-next
decreases-loop-next l = length l.rest
