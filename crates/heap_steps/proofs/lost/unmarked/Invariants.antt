use Rattle.std.proofs.Common.{◌≡◌, map, length, take}
use Rattle.std.specs.List.{filter}
use Rattle.graph.specs.declared.parts.KeyedObject.{KeyedObject}
use Rattle.heap_steps.specs.Unreached.{is_unmarked}
use Rattle.heap_steps.proofs.lost.unmarked.Given as goal

abbrev pub invariant-loop-key : goal.invariant-loop-key
invariant-loop-key l = l.keys ≡ map (λ (entry : KeyedObject). entry.key) (filter (is_unmarked (length l.graph.objects) l.marks) (take l.key l.graph.objects))
