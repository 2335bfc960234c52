-- A struct by its address, and a scalar as one of its kind.
use Rattle.std.proofs.Common.{refl}
use Rattle.lowering.proofs.LeftParts.{stored_scalar}
use Rattle.lowering.proofs.Lefts.{two_parts}
use Rattle.lowering.proofs.left_values.add_stored.Goals as goal

pub returns-in-Struct : goal.returns-in-Struct
returns-in-Struct c = two_parts _ _ _ _ _ _ _ _ _ c.add_place_apart-in-Struct.result c.in_ok-add_place_apart.ensures c.add_place_apart-in-Struct.ensures (λ p is. rw c.in-Struct.is refl)

pub returns-in_default : goal.returns-in_default
returns-in_default c = two_parts _ _ _ _ _ _ _ _ _ c.add_as.result c.in_ok-add_place_apart.ensures c.add_as.ensures
    (λ p is. stored_scalar p c.args.levels c.args.one.now c.args.other.now c.args.kind.now c.in_default.not-Struct)
