-- What is true of the file of the command is so of the file that the words name.
use Rattle.std.proofs.Common.{map, string_bytes, sym, ◌∙◌}
use Rattle.verdicts.proofs.Exactness.{file_named}
use Rattle.verdicts.proofs.top.planned.Goals as goal

pub returns-in-Some-clause-exact : goal.returns-in-Some-clause-exact
returns-in-Some-clause-exact g c = λ file whole told tells content.
    let asked = sym c.in_ok-command.ensures ∙ c.in-Some.is in
    let same = file_named c.in-Some.command file (map string_bytes c.args.words.now) asked told in
    rw (asked, ← same) (c.planned_command.ensures.exact whole tells (rw (← same) at content))

pub returns-in-Some-clause-judged : goal.returns-in-Some-clause-judged
returns-in-Some-clause-judged g c = λ file told.
    let asked = sym c.in_ok-command.ensures ∙ c.in-Some.is in
    let same = file_named c.in-Some.command file (map string_bytes c.args.words.now) asked told in
    rw (asked, ← same) c.planned_command.ensures.judged
