use Rattle.std.proofs.Common.{◌≡◌, false, take}
use Rattle.std.specs.List.{list_any}
use Rattle.graph.specs.declared.parts.KeyedObject.{KeyedObject}
use Rattle.heap_steps.specs.Closing.{is_live_heap}
use Rattle.heap_steps.proofs.closing.has_live_heap.Given as goal

abbrev pub invariant-loop-key : goal.invariant-loop-key
invariant-loop-key l = list_any (λ (entry : KeyedObject). is_live_heap entry.object) (take l.key l.graph.objects) ≡ false
