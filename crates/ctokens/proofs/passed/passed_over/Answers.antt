use Rattle.std.proofs.Common.{add-one, sym, ◌∙◌, arith}
use Rattle.ctokens.proofs.PassedSteps.{wordless_turn}
use Rattle.ctokens.proofs.passed.passed_over.Goals as goal

pub loop-token-preserved-then-not-may_pass : goal.loop-token-preserved-then-not-may_pass
loop-token-preserved-then-not-may_pass c = record {
  len = omega (arith, c.loop-token.invariant.len, c.push_reserved.ensures.len);
  room = omega (arith, c.loop-token.invariant.room, c.push_reserved.ensures.capacity);
  few = omega (arith, c.loop-token.invariant.few);
  rest = rw add-one (wordless_turn c.loop-token.passed.items c.push_reserved.new.self.items _ c.loop-token.behind c.loop-token.unclosed c.as_slice-text.result.now c.as_slice-list.result.now c.loop-token.token-index _ c.loop-token-test.true (omega (arith, c.if-unclosed-eq0.true)) c.if-not-behind.true (sym c.may_pass.ensures ∙ c.if-not-may_pass.true) c.push_reserved.ensures.items c.loop-token.invariant.rest);
}
