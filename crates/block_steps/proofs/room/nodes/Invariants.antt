use Rattle.std.proofs.Common.{◌≡◌, take}
use Rattle.block_steps.proofs.Counted.{counted}
use Rattle.block_steps.proofs.room.nodes.Given as goal

abbrev pub invariant-loop-key : goal.invariant-loop-key
invariant-loop-key l = l.total ≡ counted (take l.key l.graph.objects)
