-- What is found is found in the blocks that are left.
use Rattle.std.proofs.Common.{◌≡◌, ◌-◌, drop, length}
use Rattle.simulation.specs.Names.{names_of, variable_in}
use Rattle.lower.proofs.around.variable_in_scopes.Given as goal

abbrev pub invariant-loop-at : goal.invariant-loop-at
invariant-loop-at l = variable_in (names_of (drop l.at l.scopes)) l.token ≡ variable_in (names_of l.scopes) l.token

abbrev pub decreases-loop-at : goal.decreases-loop-at
decreases-loop-at l = length l.scopes - l.at
