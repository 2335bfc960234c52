use Rattle.std.proofs.Common.{◌≡◌, ◌++◌, length}
use Rattle.graph.specs.Meaning.{maps_of}
use Rattle.graph.specs.Nodes.{node_of}
use Rattle.cover.specs.Cells.{cells_of_edges}
use Rattle.cover.proofs.cells.put_cells.Given as goal

abbrev pub invariant-loop-left : goal.invariant-loop-left
invariant-loop-left l = l.cells ++ cells_of_edges (maps_of l.graph) l.object l.variable l.left ≡ l.fn.cells ++ cells_of_edges (maps_of l.graph) l.object l.variable (node_of l.object).edges

abbrev pub decreases-loop-left : goal.decreases-loop-left
decreases-loop-left l = length l.left
