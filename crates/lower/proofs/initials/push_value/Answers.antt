-- What the value sets.
use Rattle.std.proofs.Common.{Some, sym, ap, ◌∙◌}
use Rattle.lowering.proofs.Onward.{if_ok}
use Rattle.lower.proofs.InitialsRead.{value_added, value_fails}
use Rattle.lower.proofs.initials.push_value.Goals as goal

pub returns-in-Some-None : goal.returns-in-Some-None
returns-in-Some-None c = λ p reads statics.
    value_fails c.args.source.now c.text-text.result.now c.text-text.ensures c.args.statics.now c.args.place c.args.value.now p reads c.args.initials.now c.args.initials.now
    (λ n p stands. sym (c.in-Some-None.is ∙ ap Some c.in-Some-None.field-0-is) ∙ c.store.ensures n p stands)

pub returns-in_ok-word-in-Some-Some : goal.returns-in_ok-word-in-Some-Some
returns-in_ok-word-in-Some-Some c = if_ok c.push_scalar.result
    (λ whole adds p reads statics.
    value_added c.args.source.now c.text-text.result.now c.text-text.ensures c.args.statics.now c.args.place c.args.value.now p reads c.args.initials.now c.push_scalar.new.initials
    c.in-Some-Some.store c.variable-variable.result c.first_token.result c.scalar_bytes.result c.in_ok-word-in-Some-Some.word whole
    (λ n p stands. sym (c.in-Some-Some.is ∙ ap Some c.in-Some-Some.field-0-is) ∙ c.store.ensures n p stands) c.variable-variable.ensures c.first_token.ensures
    c.scalar_bytes.ensures.is c.in_ok-word-in-Some-Some.ensures (adds p statics))
    c.push_scalar.ensures
