use Rattle.std.proofs.Common.{◌≡◌, length}
use Rattle.std.specs.List.{list_all}
use Rattle.graph.specs.declared.parts.KeyedObject.{KeyedObject}
use Rattle.heap_steps.specs.Closing.{has_a_block}
use Rattle.graph_rows.proofs.scopes.none_is_empty.Given as goal

abbrev pub invariant-loop-left : goal.invariant-loop-left
invariant-loop-left l = list_all (λ (entry : KeyedObject). has_a_block entry.object.shape) l.objects ≡ list_all (λ (entry : KeyedObject). has_a_block entry.object.shape) l.left

abbrev pub decreases-loop-left : goal.decreases-loop-left
decreases-loop-left l = length l.left
