use Rattle.expressions.proofs.Loops.{Arguments}
use Rattle.expressions.proofs.checker.Checker.arguments.Given as goal

abbrev pub invariant-loop-arg : goal.invariant-loop-arg
invariant-loop-arg g l = Arguments l.self.abi l.args l.known.items l.initial.context l.context l.arg-index
