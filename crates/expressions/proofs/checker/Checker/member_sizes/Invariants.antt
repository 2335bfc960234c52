use Rattle.expressions.proofs.MemberSizes.{MemberSizes}
use Rattle.expressions.proofs.checker.Checker.member_sizes.Given as goal

abbrev pub invariant-loop-size : goal.invariant-loop-size
invariant-loop-size g l = MemberSizes l.self.abi l.sizes l.found.items l.initial.context l.context l.size-index
