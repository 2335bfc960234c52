use Rattle.std.proofs.Common.{arith}
use Rattle.std.proofs.lemmas.Grind.{common_steps}
use Rattle.ctokens.proofs.OfferedSteps.{gathered_at}
use Rattle.ctokens.proofs.entry.gather.Goals as goal

pub loop-i-preserved : goal.loop-i-preserved
loop-i-preserved c = record {
  few = grind (arith, common_steps, c.loop-i.invariant.few, c.depth_after-depth.ensures);
  gathered = rw c.depth_after-depth.ensures (rw c.set_after-set.ensures (rw c.body_after-body.ensures (rw c.ends_body-last.ensures (rw c.in_ok-turn_brackets.ensures
      (gathered_at _ _ _ _ _ _ _ _ _ _ _ _ _ _ _ _ _ (omega (arith, c.loop-i-test.true)) c.split_at.ensures.back c.in_ok-push_front.ensures c.as_slice.ensures.value c.in_ok-push_enumerator.ensures c.in_ok-push_contained.ensures
      c.loop-i.invariant.gathered)))));
}
