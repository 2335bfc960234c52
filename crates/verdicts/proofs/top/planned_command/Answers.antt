use Rattle.verdicts.proofs.Exactness.{plan_answered, plan_exact}
use Rattle.verdicts.proofs.top.planned_command.Goals as goal

-- what is said of the answer is said of the plan
pub returns-clause-judged : goal.returns-clause-judged
returns-clause-judged g c =
    plan_answered _ _ _ _ _ c.reported.result _ (rw c.as_slice.ensures at c.in_ok-answer.ensures.judged) c.reported.ensures.shown

pub returns-clause-exact : goal.returns-clause-exact
returns-clause-exact g c = λ whole tells is.
    plan_exact _ c.args.command.file whole c.reported.result _ ((rw c.as_slice.ensures at c.in_ok-answer.ensures.exact) whole tells is) c.reported.ensures.shown
