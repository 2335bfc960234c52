use Rattle.std.proofs.Common.{◌≡◌, take}
use Rattle.materialise.proofs.SplitSteps.{counted}
use Rattle.materialise.proofs.room.nodes.Given as goal

abbrev pub invariant-loop-key : goal.invariant-loop-key
invariant-loop-key l = l.total ≡ counted (take l.key l.graph.objects)
