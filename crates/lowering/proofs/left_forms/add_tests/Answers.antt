-- Each operator.
use Rattle.std.proofs.Common.{refl}
use Rattle.lowering.proofs.LeftParts.{test_apart}
use Rattle.lowering.proofs.Lefts.{one_part}
use Rattle.lowering.proofs.left_forms.add_tests.Goals as goal

pub returns-in-Both : goal.returns-in-Both
returns-in-Both c = one_part _ _ _ _ _ _ _ c.add_two_tests.result c.add_two_tests.ensures (λ p is. rw c.in-Both.is refl)

pub returns-in-Either : goal.returns-in-Either
returns-in-Either c = one_part _ _ _ _ _ _ _ c.add_two_tests-in-Either.result c.add_two_tests-in-Either.ensures (λ p is. rw c.in-Either.is refl)

pub returns-in-Equal : goal.returns-in-Equal
returns-in-Equal c = one_part _ _ _ _ _ _ _ c.add_sides.result c.add_sides.ensures (λ p is. rw c.in-Equal.is refl)

pub returns-in-NotEqual : goal.returns-in-NotEqual
returns-in-NotEqual c = one_part _ _ _ _ _ _ _ c.add_sides-in-NotEqual.result c.add_sides-in-NotEqual.ensures (λ p is. rw c.in-NotEqual.is refl)

pub returns-in_default : goal.returns-in_default
returns-in_default c = one_part _ _ _ _ _ _ _ c.add_value_apart.result c.add_value_apart.ensures
    (λ p is. test_apart p c.args.levels c.args.expr.now c.args.op c.args.one.now c.args.other.now
    c.in_default.not-Both c.in_default.not-Either c.in_default.not-Equal c.in_default.not-NotEqual)
