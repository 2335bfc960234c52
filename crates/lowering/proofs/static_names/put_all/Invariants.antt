-- The objects so far.
use Rattle.std.proofs.Common.{take}
use Rattle.lowering.specs.ByToken.{AreByToken}
use Rattle.lowering.proofs.static_names.put_all.Given as goal

abbrev pub invariant-loop-name : goal.invariant-loop-name
invariant-loop-name l = AreByToken (take l.name-index l.names) l.variables.entries
