use Rattle.std.proofs.Common.{◌-◌, length}
use Rattle.graph.specs.Maps.{object_at}
use Rattle.cover.specs.Checked.{AreSomeLivePaired}
use Rattle.cover.proofs.live.live_are_paired.Given as goal

abbrev pub invariant-loop-key : goal.invariant-loop-key
invariant-loop-key l = AreSomeLivePaired (object_at l.graph.objects) l.partners l.key

abbrev pub decreases-loop-key : goal.decreases-loop-key
decreases-loop-key l = length l.graph.objects - l.key
