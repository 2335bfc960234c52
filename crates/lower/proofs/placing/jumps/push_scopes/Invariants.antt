-- The variables so far and those of the blocks that are left.
use Rattle.std.proofs.Common.{◌≡◌, ◌++◌, ◌-◌, drop, length}
use Rattle.simulation.specs.Names.{names_of, variables_of}
use Rattle.lower.proofs.placing.jumps.push_scopes.Given as goal

abbrev pub invariant-loop-at : goal.invariant-loop-at
invariant-loop-at l = l.variables ++ variables_of (names_of (drop l.at l.scopes)) ≡ l.fn.variables ++ variables_of (names_of l.scopes)

abbrev pub decreases-loop-at : goal.decreases-loop-at
decreases-loop-at l = length l.scopes - l.at
