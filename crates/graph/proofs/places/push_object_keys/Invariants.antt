use Rattle.std.proofs.Common.{◌≡◌, map, take}
use Rattle.graph.proofs.places.push_object_keys.Given as goal

abbrev pub invariant-loop-entry : goal.invariant-loop-entry
invariant-loop-entry l = l.keys ≡ map (λ entry. entry.key) (take l.entry-index l.entry-items)
