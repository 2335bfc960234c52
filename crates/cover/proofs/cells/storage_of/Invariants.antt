use Rattle.std.proofs.Common.{◌≡◌, length}
use Rattle.graph.specs.Maps.{storage_of}
use Rattle.cover.proofs.cells.storage_of.Given as goal

abbrev pub invariant-loop-left : goal.invariant-loop-left
invariant-loop-left l = storage_of l.variables l.variable ≡ storage_of l.left l.variable

abbrev pub decreases-loop-left : goal.decreases-loop-left
decreases-loop-left l = length l.left
