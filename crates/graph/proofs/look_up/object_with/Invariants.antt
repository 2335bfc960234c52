use Rattle.std.proofs.Common.{length}
use Rattle.graph.specs.declared.parts.KeyedObject.{KeyedObject}
use Rattle.graph.proofs.ByHalves.{Halved}
use Rattle.graph.proofs.look_up.object_with.Given as goal

abbrev pub invariant-loop-entries : goal.invariant-loop-entries
invariant-loop-entries l = Halved (λ (entry : KeyedObject). entry.key) (λ entry. entry.object) l.parts.objects l.entries l.key

abbrev pub decreases-loop-entries : goal.decreases-loop-entries
decreases-loop-entries l = length l.entries
