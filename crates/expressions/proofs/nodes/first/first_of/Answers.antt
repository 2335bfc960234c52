-- Which of two comes first is what is named of both.
use Rattle.std.proofs.Common.{sym, ◌∙◌, subst}
use Rattle.expressions.specs.Settled.{IsFirstOf}
use Rattle.expressions.proofs.Firsts.{first_in_front, first_behind}
use Rattle.expressions.proofs.nodes.first.first_of.Goals as goal

pub returns-then-comes_before : goal.returns-then-comes_before
returns-then-comes_before c = λ faults others is also.
    first_in_front faults others c.in-Some-Some.one c.in-Some-Some.other (sym c.comes_before.ensures ∙ c.if-comes_before.true)
    (subst (IsFirstOf faults) c.in-Some-Some.is-0 is) (subst (IsFirstOf others) c.in-Some-Some.is-1 also)

pub returns-else-comes_before : goal.returns-else-comes_before
returns-else-comes_before c = λ faults others is also.
    first_behind faults others c.in-Some-Some.one c.in-Some-Some.other (sym c.comes_before.ensures ∙ c.if-comes_before.false)
    (subst (IsFirstOf faults) c.in-Some-Some.is-0 is) (subst (IsFirstOf others) c.in-Some-Some.is-1 also)
