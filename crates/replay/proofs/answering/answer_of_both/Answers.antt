use Rattle.replay.proofs.Told.{bad_told, not_spelled, played_told, spelled}
use Rattle.replay.proofs.answering.answer_of_both.Goals as goal

pub returns-in_ok-what-in-Choices-clause-told : goal.returns-in_ok-what-in-Choices-clause-told
returns-in_ok-what-in-Choices-clause-told c =
    rw c.with_names.ensures
    (played_told c.args.command.now c.args.t c.args.program.now c.args.text.now c.args.strict c.requires.holds c.args.second.now c.as_slice.result.now c.in_ok-what-in-Choices.what c.requires.short
    (rw c.as_slice.ensures (spelled c.args.second.now _ c.in-Choices.choices c.in-Choices.is c.in_ok-choices.ensures.answer)) c.in_ok-what-in-Choices.ensures.is
    c.in_ok-what-in-Choices.ensures.printable)

pub returns-in-Refused-clause-told : goal.returns-in-Refused-clause-told
returns-in-Refused-clause-told c =
    rw c.with_names-in-Refused.ensures
    (bad_told c.args.command.now c.args.t c.args.program.now c.args.text.now c.args.strict c.requires.holds c.args.second.now c.requires.short
    (not_spelled c.args.second.now _ _ c.in-Refused.is c.in_ok-choices.ensures.exactly))
