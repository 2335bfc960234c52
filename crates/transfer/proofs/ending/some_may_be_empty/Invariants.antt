use Rattle.std.proofs.Common.{◌≡◌, false, not, take}
use Rattle.std.specs.List.{list_any}
use Rattle.graph.specs.declared.parts.KeyedObject.{KeyedObject}
use Rattle.heap_steps.specs.Closing.{has_a_block}
use Rattle.transfer.proofs.ending.some_may_be_empty.Given as goal

abbrev pub invariant-loop-key : goal.invariant-loop-key
invariant-loop-key l = list_any (λ (entry : KeyedObject). not (has_a_block entry.object.shape)) (take l.key l.graph.objects) ≡ false
