use Rattle.std.proofs.Common.{◌-◌, length}
use Rattle.graph.specs.Meaning.{maps_of}
use Rattle.graph.specs.Nodes.{node_of}
use Rattle.cover.specs.Found.{Linking}
use Rattle.cover.proofs.edges.pair_edges.Given as goal

abbrev pub invariant-loop-at : goal.invariant-loop-at
invariant-loop-at l = Linking (maps_of l.wide) (maps_of l.narrow) l.fn.found l.found (node_of l.with) (node_of l.object).edges l.at

abbrev pub decreases-loop-at : goal.decreases-loop-at
decreases-loop-at l = length (node_of l.object).edges - l.at
