-- What is found is found in what is left.
use Rattle.std.proofs.Common.{◌≡◌, drop}
use Rattle.simulation.specs.Names.{variable_in}
use Rattle.lowering.proofs.names.variable_in.Given as goal

abbrev pub invariant-loop-name : goal.invariant-loop-name
invariant-loop-name l = variable_in (drop l.name-index l.names) l.token ≡ variable_in l.names l.token
