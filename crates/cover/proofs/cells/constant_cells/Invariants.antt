use Rattle.std.proofs.Common.{◌≡◌, ◌++◌, length}
use Rattle.graph.specs.Meaning.{maps_of}
use Rattle.cover.specs.Cells.{cells_of_variables, constant_cells}
use Rattle.cover.proofs.cells.constant_cells.Given as goal

abbrev pub invariant-loop-left : goal.invariant-loop-left
invariant-loop-left l = l.cells ++ cells_of_variables (maps_of l.graph) l.left ≡ constant_cells l.graph

abbrev pub decreases-loop-left : goal.decreases-loop-left
decreases-loop-left l = length l.left
