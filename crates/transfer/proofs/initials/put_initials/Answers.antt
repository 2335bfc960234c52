use Rattle.std.proofs.Common.{refl}
use Rattle.transfer.proofs.StartReady.{may_next, initials_next, named_next, right_next, few_next}
use Rattle.transfer.proofs.initials.put_initials.Goals as goal

pub put_initial-requires-clause-may : goal.put_initial-requires-clause-may
put_initial-requires-clause-may c = may_next c.args.flow.now c.loop-left.left.now c.loop-left.after _ c.in-len1-up.len_at_least c.loop-left.invariant.named c.loop-left.invariant.right

pub loop-left-preserved : goal.loop-left-preserved
loop-left-preserved c = record {
  same = initials_next c.loop-left.left.now c.args.flow.now.initial c.args.parts c.loop-left.after c.in_ok-after.after _ _ c.in-len1-up.len_at_least refl c.loop-left.invariant.same c.in_ok-after.ensures;
  named = named_next c.args.flow.now c.loop-left.left.now c.loop-left.after c.in_ok-after.after _ c.in-len1-up.len_at_least c.loop-left.invariant.named c.loop-left.invariant.right c.in_ok-after.ensures;
  right = right_next c.args.flow.now c.loop-left.left.now _ c.in-len1-up.len_at_least refl c.loop-left.invariant.right;
  few = few_next c.loop-left.left.now c.loop-left.after c.in_ok-after.after _ _ c.in-len1-up.len_at_least refl c.loop-left.invariant.few c.in_ok-after.ensures;
}
