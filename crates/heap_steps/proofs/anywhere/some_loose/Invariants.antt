use Rattle.std.proofs.Common.{◌≡◌, false, take}
use Rattle.std.specs.List.{list_any}
use Rattle.graph.specs.declared.parts.KeyedObject.{KeyedObject}
use Rattle.graph.specs.Nodes.{node_of}
use Rattle.heap_steps.specs.Unreached.{has_loose_byte}
use Rattle.heap_steps.proofs.anywhere.some_loose.Given as goal

abbrev pub invariant-loop-key : goal.invariant-loop-key
invariant-loop-key l = list_any (λ (entry : KeyedObject). has_loose_byte (node_of entry.object).edges 0 (node_of entry.object).plane) (take l.key l.graph.objects) ≡ false
