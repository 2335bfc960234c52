use Rattle.expressions.proofs.TypeNames.{Sizes}
use Rattle.expressions.proofs.checker.Checker.sizes.Given as goal

abbrev pub invariant-loop-size : goal.invariant-loop-size
invariant-loop-size g l = Sizes l.self.abi l.sizes l.found.items l.initial.context l.context l.size-index
