use Rattle.std.proofs.Common.{◌≡◌, false, take}
use Rattle.std.specs.List.{list_any}
use Rattle.graph.specs.declared.parts.KeyedObject.{KeyedObject}
use Rattle.graph.specs.Nodes.{node_of}
use Rattle.heap_steps.specs.Unreached.{edges_hold_any}
use Rattle.heap_steps.proofs.anywhere.objects_hold_any.Given as goal

abbrev pub invariant-loop-key : goal.invariant-loop-key
invariant-loop-key l = list_any (λ (entry : KeyedObject). edges_hold_any l.graph (node_of entry.object).edges) (take l.key l.graph.objects) ≡ false
