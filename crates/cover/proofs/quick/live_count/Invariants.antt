use Rattle.std.proofs.Common.{◌-◌, ◌≤◌, length}
use Rattle.cover.proofs.Counting.{IsCountTo}
use Rattle.cover.proofs.quick.live_count.Given as goal

abbrev pub invariant-loop-key : goal.invariant-loop-key
invariant-loop-key l = record {
  counted : IsCountTo l.graph l.key l.live;
  few : l.live ≤ l.key;
}

abbrev pub decreases-loop-key : goal.decreases-loop-key
decreases-loop-key l = length l.graph.objects - l.key
