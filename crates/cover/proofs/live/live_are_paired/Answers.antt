use Rattle.std.proofs.Common.{rules, ◌≤◌, length, arith}
use Rattle.graph.specs.Maps.{object_at}
use Rattle.cover.proofs.Living.{live-end, object-below}
use Rattle.cover.proofs.live.live_are_paired.Goals as goal

pub returns : goal.returns
returns c = live-end (object_at c.args.graph.now.objects) c.args.partners.now c.loop-key.key c.loop-key.invariant (λ key object is.
    let below = object-below c.args.graph.now c.object_count-count.ensures.graph key object is in
    let all : length c.args.graph.now.objects ≤ c.loop-key.key = search rules in
    omega arith)
