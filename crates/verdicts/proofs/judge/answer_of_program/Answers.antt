-- What is found of the program is told.
use Rattle.std.proofs.Common.{sym, ◌∙◌}
use Rattle.verdicts.proofs.Told.{found_told}
use Rattle.verdicts.proofs.judge.answer_of_program.Goals as goal

pub returns-in-Some : goal.returns-in-Some
returns-in-Some c =
    found_told c.args.limits.now c.args.t.now c.args.typed c.in_ok-found.found c.in-Some.answer c.requires.named c.requires.holds c.leads_back.ensures
    (rw c.as_slice.ensures at c.in_ok-found.ensures) (sym c.in_ok-answer.ensures ∙ c.in-Some.is)
