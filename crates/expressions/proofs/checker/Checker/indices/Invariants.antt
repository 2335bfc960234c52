use Rattle.expressions.proofs.Loops.{Indices}
use Rattle.expressions.proofs.checker.Checker.indices.Given as goal

abbrev pub invariant-loop-part : goal.invariant-loop-part
invariant-loop-part g l = Indices l.self.abi l.path l.words.items l.initial.context l.context l.part-index
