use Rattle.items.proofs.declarations.DeclaredNames.{Names}
use Rattle.items.proofs.declarations.walk.names.Given as goal

abbrev pub invariant-loop-name : goal.invariant-loop-name
invariant-loop-name g l = Names l.checker.abi l.storage l.base l.names l.initial.context l.context l.name-index
