use Rattle.expressions.proofs.Enumerators.{Enumerators}
use Rattle.expressions.proofs.checker.Checker.enumerators.Given as goal

abbrev pub invariant-loop-constant : goal.invariant-loop-constant
invariant-loop-constant g l = Enumerators l.self.abi l.constants l.next l.initial.context l.context l.constant-index
