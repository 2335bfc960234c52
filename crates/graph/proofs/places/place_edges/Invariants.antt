use Rattle.std.proofs.Common.{◌≡◌, ◌++◌, map, take, drop}
use Rattle.graph.specs.Renaming.{place_among, renamed_edge}
use Rattle.graph.proofs.places.place_edges.Given as goal

abbrev pub invariant-loop-edge : goal.invariant-loop-edge
invariant-loop-edge l = l.edges ≡ map (renamed_edge (place_among l.keys)) (take l.edge-index l.fn.edges) ++ drop l.edge-index l.fn.edges
