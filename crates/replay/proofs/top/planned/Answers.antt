-- What is said of the command is so of the one that the words ask for.
use Rattle.std.proofs.Common.{IfOk, OnErr, map, string_bytes, subst}
use Rattle.command_line.specs.declared.replay.ReplayCommand.{ReplayCommand}
use Rattle.replay.specs.Answered.{IsAnswered}
use Rattle.outside.specs.Opened.{Openings}
use Rattle.report.specs.declared.replay_answer.ReplayAnswer.TheVariants.{OutOfMemory}
use Rattle.replay.specs.Opened.{AreOpened, IsOpenedLast}
use Rattle.replay.proofs.Files.{plan_choices_named, plan_known, plan_named, plan_no_usage, same_command}
use Rattle.replay.proofs.top.planned.Goals as goal

pub returns-in-Some-clause-judged : goal.returns-in-Some-clause-judged
returns-in-Some-clause-judged g c = λ command words.
    let F = g.F.Files in
    let files = c.args.files.now in
    let same = same_command _ (map string_bytes c.args.words.now) c.in-Some.command command c.in_ok-command.ensures c.in-Some.is words in
    subst
    (λ (x : ReplayCommand). IfOk c.planned_command.result (λ plan. IsAnswered (F.tells files) (F.bytes_of files x.file) (F.bytes_of files x.choices) x plan.shown.names plan.shown.answer))
    same c.planned_command.ensures.judged

pub returns-in-Some-clause-begun : goal.returns-in-Some-clause-begun
returns-in-Some-clause-begun g c = λ command words.
    let F = g.F.Files in
    let files = c.args.files.now in
    let same = same_command _ (map string_bytes c.args.words.now) c.in-Some.command command c.in_ok-command.ensures c.in-Some.is words in
    subst
    (λ (x : ReplayCommand). IfOk c.planned_command.result (λ plan. IsOpenedLast (F.tells files) (F.bytes_of files x.file) x (F.begun c.planned_command.new.files) plan.shown.answer))
    same c.planned_command.ensures.begun

pub returns-in-Some-clause-opened : goal.returns-in-Some-clause-opened
returns-in-Some-clause-opened g c = λ command words.
    let F = g.F.Files in
    let files = c.args.files.now in
    let behind = c.planned_command.new.files in
    let before : Openings = record { count = F.openings files; last = F.begun files } in
    let after : Openings = record { count = F.openings behind; last = F.begun behind } in
    let same = same_command _ (map string_bytes c.args.words.now) c.in-Some.command command c.in_ok-command.ensures c.in-Some.is words in
    subst
    (λ (x : ReplayCommand). IfOk c.planned_command.result (λ plan. AreOpened (F.tells files) (F.bytes_of files x.file) x before after plan.shown.answer))
    same c.planned_command.ensures.opened

pub returns-in-Some-clause-wanting : goal.returns-in-Some-clause-wanting
returns-in-Some-clause-wanting g c = λ command words.
    let F = g.F.Files in
    let files = c.args.files.now in
    let behind = c.planned_command.new.files in
    let before : Openings = record { count = F.openings files; last = F.begun files } in
    let after : Openings = record { count = F.openings behind; last = F.begun behind } in
    let same = same_command _ (map string_bytes c.args.words.now) c.in-Some.command command c.in_ok-command.ensures c.in-Some.is words in
    subst (λ (x : ReplayCommand). OnErr c.planned_command.result (AreOpened (F.tells files) (F.bytes_of files x.file) x before after OutOfMemory)) same
    c.planned_command.ensures.wanting

pub returns-in-Some-clause-known : goal.returns-in-Some-clause-known
returns-in-Some-clause-known g c = plan_known c.planned_command.result c.planned_command.ensures.about

pub returns-in-Some-clause-usage_only : goal.returns-in-Some-clause-usage_only
returns-in-Some-clause-usage_only g c = plan_no_usage _ c.planned_command.result c.planned_command.ensures.about

pub returns-in-Some-clause-named : goal.returns-in-Some-clause-named
returns-in-Some-clause-named g c =
    plan_named c.planned_command.result _ (map string_bytes c.args.words.now) c.in-Some.command c.in_ok-command.ensures c.in-Some.is c.planned_command.ensures.about
    c.planned_command.ensures.named

pub returns-in-Some-clause-choices_named : goal.returns-in-Some-clause-choices_named
returns-in-Some-clause-choices_named g c =
    plan_choices_named c.planned_command.result _ (map string_bytes c.args.words.now) c.in-Some.command c.in_ok-command.ensures c.in-Some.is
    c.planned_command.ensures.about c.planned_command.ensures.choices_named
