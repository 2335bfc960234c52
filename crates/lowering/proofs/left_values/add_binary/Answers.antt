-- Each operator.
use Rattle.std.proofs.Common.{refl}
use Rattle.lowering.proofs.LeftParts.{sides_both}
use Rattle.lowering.proofs.Lefts.{one_part, two_parts}
use Rattle.lowering.proofs.left_values.add_binary.Goals as goal

pub returns-in-Both : goal.returns-in-Both
returns-in-Both c = one_part _ _ _ _ _ _ _ c.add_whole.result c.add_whole.ensures (λ p is. rw c.in-Both.is refl)

pub returns-in-Either : goal.returns-in-Either
returns-in-Either c = one_part _ _ _ _ _ _ _ c.add_whole-in-Either.result c.add_whole-in-Either.ensures (λ p is. rw c.in-Either.is refl)

pub returns-in-Equal : goal.returns-in-Equal
returns-in-Equal c = one_part _ _ _ _ _ _ _ c.add_whole-in-Equal.result c.add_whole-in-Equal.ensures (λ p is. rw c.in-Equal.is refl)

pub returns-in-NotEqual : goal.returns-in-NotEqual
returns-in-NotEqual c = one_part _ _ _ _ _ _ _ c.add_whole-in-NotEqual.result c.add_whole-in-NotEqual.ensures (λ p is. rw c.in-NotEqual.is refl)

pub returns-in_ok-add_whole-in-Comma : goal.returns-in_ok-add_whole-in-Comma
returns-in_ok-add_whole-in-Comma c = two_parts _ _ _ _ _ _ _ _ _ c.add_whole-in-Comma-2.result c.in_ok-add_whole-in-Comma.ensures c.add_whole-in-Comma-2.ensures
    (λ p is. rw c.in-Comma.is refl)

pub returns-in_default : goal.returns-in_default
returns-in_default c = one_part _ _ _ _ _ _ _ c.add_sides.result c.add_sides.ensures
    (λ p is. sides_both p c.args.levels c.args.expr.now c.args.op c.args.one.now c.args.other.now c.args.in_spare
    c.in_default.not-Both c.in_default.not-Either c.in_default.not-Equal c.in_default.not-NotEqual c.in_default.not-Comma)
