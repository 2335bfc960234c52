use Rattle.std.proofs.Common.{length}
use Rattle.graph.specs.declared.parts.KeyedValue.{KeyedValue}
use Rattle.graph.proofs.ByHalves.{Halved}
use Rattle.graph.proofs.look_up.value_with.Given as goal

abbrev pub invariant-loop-entries : goal.invariant-loop-entries
invariant-loop-entries l = Halved (λ (entry : KeyedValue). entry.key) (λ entry. entry.value) l.parts.values l.entries l.key

abbrev pub decreases-loop-entries : goal.decreases-loop-entries
decreases-loop-entries l = length l.entries
