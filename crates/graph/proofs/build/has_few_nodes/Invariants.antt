use Rattle.std.proofs.Common.{◌≡◌, ◌+◌, ◌<◌, length}
use Rattle.std.specs.List.{fold}
use Rattle.graph.specs.declared.parts.KeyedObject.{KeyedObject}
use Rattle.graph.specs.WellFormed.{nodes_of}
use Rattle.graph.proofs.build.has_few_nodes.Given as goal

abbrev pub invariant-loop-left : goal.invariant-loop-left
invariant-loop-left l =
    (fold (λ count (entry : KeyedObject). count + nodes_of entry.object.shape) 0 l.objects ≡ fold (λ count (entry : KeyedObject). count + nodes_of entry.object.shape) l.count l.left)
    × (l.count < 1073741824)

abbrev pub decreases-loop-left : goal.decreases-loop-left
decreases-loop-left l = length l.left
