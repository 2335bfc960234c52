-- Both values.
use Rattle.std.proofs.Common.{refl}
use Rattle.lowering.proofs.Lefts.{two_parts}
use Rattle.lowering.proofs.left.add_sides.Goals as goal

pub returns : goal.returns
returns c = two_parts _ _ _ _ _ _ _ _ _ c.add_value_apart-2.result c.in_ok-add_value_apart.ensures c.add_value_apart-2.ensures (λ p is. refl)
