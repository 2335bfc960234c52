use Rattle.items.proofs.parameters.Walk.{Parameters}
use Rattle.items.proofs.parameters.walking.parameters.Given as goal

abbrev pub invariant-loop-param : goal.invariant-loop-param
invariant-loop-param g l = Parameters l.checker.abi l.params l.kept.items l.initial.context l.context l.param-index
