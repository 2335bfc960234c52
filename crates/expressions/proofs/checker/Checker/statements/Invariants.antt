use Rattle.expressions.proofs.Blocks.{Statements}
use Rattle.expressions.proofs.checker.Checker.statements.Given as goal

abbrev pub invariant-loop-at : goal.invariant-loop-at
invariant-loop-at g l = Statements l.self.abi l.body l.initial.context l.context l.at
