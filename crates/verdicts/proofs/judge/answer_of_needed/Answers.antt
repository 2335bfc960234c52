-- What the check answers of the items that main needs is told, or held.
use Rattle.verdicts.proofs.Told.{refusal_told, typed_held}
use Rattle.verdicts.proofs.judge.answer_of_needed.Goals as goal

pub returns-in-Refused : goal.returns-in-Refused
returns-in-Refused c =
    rw c.answer_of.ensures
    (refusal_told c.args.limits.now c.args.t.now c.args.items.now c.args.numbers.now c.in-Refused.refusal _ c.requires.spans c.requires.needed c.in-Refused.is
    c.in_ok-refusal.ensures.answer c.in_ok-refusal.ensures.named)

pub answer_of_program-requires-clause-holds : goal.answer_of_program-requires-clause-holds
answer_of_program-requires-clause-holds c =
    typed_held c.args.t.now c.args.items.now c.args.numbers.now c.in-Typed.typed _ c.requires.spans c.requires.needed c.in-Typed.is c.in_ok-refusal.ensures.answer
