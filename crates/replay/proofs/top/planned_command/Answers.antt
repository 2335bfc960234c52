use Rattle.replay.proofs.Files.{plan_about, plan_answered}
use Rattle.replay.proofs.Opened.{plan_all_opened, plan_opened, plan_wanting}
use Rattle.replay.proofs.top.planned_command.Goals as goal

-- what is said of the answer is said of the plan
pub returns-clause-judged : goal.returns-clause-judged
returns-clause-judged g c = plan_answered _ _ _ c.args.command c.reported.result _ c.in_ok-answer.ensures.judged c.reported.ensures.shown

pub returns-clause-about : goal.returns-clause-about
returns-clause-about g c = plan_about c.reported.result _ c.in_ok-answer.ensures.about c.reported.ensures.shown

pub returns-clause-begun : goal.returns-clause-begun
returns-clause-begun g c = plan_opened _ _ c.args.command _ c.reported.result _ c.in_ok-answer.ensures.begun c.reported.ensures.shown

pub returns-clause-opened : goal.returns-clause-opened
returns-clause-opened g c = plan_all_opened _ _ c.args.command _ _ c.reported.result _ c.in_ok-answer.ensures.opened c.reported.ensures.shown

pub returns-clause-wanting : goal.returns-clause-wanting
returns-clause-wanting g c = plan_wanting _ _ c.args.command _ _ c.reported.result _ c.in_ok-answer.ensures.opened
