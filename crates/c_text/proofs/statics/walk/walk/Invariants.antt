use Rattle.std.proofs.Common.{◌≡◌, ◌+◌, ◌++◌}
use Rattle.c_machine.specs.Statics.{sets_within}
use Rattle.c_text.specs.statics.Weights.{weights}
use Rattle.c_text.proofs.statics.walk.walk.Given as goal

abbrev pub invariant-loop-node : goal.invariant-loop-node
invariant-loop-node l = record {
  sets : l.sets ++ sets_within (weights l.nodes) l.nodes ≡ l.fn.sets ++ sets_within (weights l.fn.nodes) l.fn.nodes;
  parts : l.count + weights l.nodes ≡ weights l.fn.nodes;
}

abbrev pub decreases-loop-node : goal.decreases-loop-node
decreases-loop-node l = weights l.nodes
