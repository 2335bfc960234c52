-- What the check answers of the items that main needs is told of FILE, or held.
use Rattle.std.proofs.Common.{refl}
use Rattle.replay.proofs.Told.{refusal_found, typed_found}
use Rattle.replay.proofs.judging.with_items.Goals as goal

pub returns-in-Refused : goal.returns-in-Refused
returns-in-Refused c =
    let r = c.requires in
    rw c.with_names.ensures
    (rw c.answer_of.ensures
    (refusal_found c.args.command.now c.args.t c.args.items.now c.args.numbers.now c.in-Refused.refusal _ r.short r.tokens r.spans r.needed c.in-Refused.is
    c.in_ok-refusal.ensures.answer c.in_ok-refusal.ensures.named))

pub returns-in-Typed : goal.returns-in-Typed
returns-in-Typed c =
    let r = c.requires in (
      refl,
      r.named,
      typed_found c.args.command.now c.args.t c.args.items.now c.args.numbers.now c.in-Typed.program _ r.short r.tokens r.spans r.needed c.in-Typed.is
          c.in_ok-refusal.ensures.answer c.leads_back.ensures,
    )
