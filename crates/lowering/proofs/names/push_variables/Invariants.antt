-- The variables so far.
use Rattle.std.proofs.Common.{◌≡◌, ◌++◌, take}
use Rattle.simulation.specs.Names.{variables_of}
use Rattle.lowering.proofs.names.push_variables.Given as goal

abbrev pub invariant-loop-name : goal.invariant-loop-name
invariant-loop-name l = l.variables ≡ l.fn.variables ++ variables_of (take l.name-index l.names)
