-- One parameter behind the other.
use Rattle.std.proofs.Common.{arith}
use Rattle.c_text.proofs.typed_text.TypedText.leading_from.Goals as goal

pub loop-at-preserved : goal.loop-at-preserved
loop-at-preserved c = record {
  behind = omega (arith, c.loop-at.invariant.behind);
  counted = omega (arith, c.loop-at.invariant.behind, c.loop-at.invariant.counted, c.is_parameter.ensures.yes c.loop-at-test.true);
}

pub returns : goal.returns
returns c = omega (arith, c.loop-at.invariant.behind, c.loop-at.invariant.counted, c.is_parameter.ensures.no c.loop-at-test.false)
