-- Each operator.
use Rattle.std.proofs.Common.{refl}
use Rattle.lowering.proofs.Lefts.{one_part}
use Rattle.lowering.proofs.LeftParts.{unary_apart}
use Rattle.lowering.proofs.left_values.add_unary.Goals as goal

pub returns-in-Address : goal.returns-in-Address
returns-in-Address c = one_part _ _ _ _ _ _ _ c.add_whole.result c.add_whole.ensures (λ p is. rw c.in-Address.is refl)

pub returns-in-Follow : goal.returns-in-Follow
returns-in-Follow c = one_part _ _ _ _ _ _ _ c.add_loaded.result c.add_loaded.ensures (λ p is. rw c.in-Follow.is refl)

pub returns-in-Not : goal.returns-in-Not
returns-in-Not c = one_part _ _ _ _ _ _ _ c.add_whole-in-Not.result c.add_whole-in-Not.ensures (λ p is. rw c.in-Not.is refl)

pub returns-in_default : goal.returns-in_default
returns-in_default c = one_part _ _ _ _ _ _ _ c.add_value_apart.result c.add_value_apart.ensures
    (λ p is. unary_apart p c.args.levels c.args.expr.now c.args.op c.args.arg.now c.args.in_spare
    c.in_default.not-Address c.in_default.not-Follow c.in_default.not-Not c.in_default.not-Plus)
