use Rattle.std.proofs.Common.{◌≡◌, length}
use Rattle.driver.specs.SameCells.{are_same_cells}
use Rattle.driver.proofs.masking.are_same.Given as goal

abbrev pub invariant-loop-left : goal.invariant-loop-left
invariant-loop-left l = are_same_cells l.ones l.others ≡ are_same_cells l.left l.others_left

abbrev pub decreases-loop-left : goal.decreases-loop-left
decreases-loop-left l = length l.left
