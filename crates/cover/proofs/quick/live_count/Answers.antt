use Rattle.std.proofs.Common.{rules, arith}
use Rattle.cover.proofs.Counting.{count_next}
use Rattle.cover.proofs.quick.live_count.Goals as goal

pub loop-key-preserved : goal.loop-key-preserved
loop-key-preserved c =
    let few = c.loop-key.invariant.few in
    let most = c.one_if_live-live.ensures.at_most_one in
    record {
      counted = count_next c.args.graph.now c.loop-key.key c.loop-key.live c.one_if_live-live.result c.object_count-count.ensures.graph c.loop-key.invariant.counted (search rules) c.one_if_live-live.ensures.result;
      few = omega (arith, few, most);
    }
