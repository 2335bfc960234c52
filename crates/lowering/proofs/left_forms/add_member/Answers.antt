-- By `.`, and by `->`.
use Rattle.std.proofs.Common.{refl}
use Rattle.lowering.proofs.Lefts.{one_part}
use Rattle.lowering.proofs.left_forms.add_member.Goals as goal

pub returns-then-through : goal.returns-then-through
returns-then-through c = one_part _ _ _ _ _ _ _ c.add_whole.result c.add_whole.ensures (λ p is. rw (c.if-through.true, c.still_in_spare-still.ensures) refl)

pub returns-else-through : goal.returns-else-through
returns-else-through c = one_part _ _ _ _ _ _ _ c.add_whole-else-through.result c.add_whole-else-through.ensures (λ p is. rw (c.if-through.false, c.still_in_spare-still.ensures) refl)
