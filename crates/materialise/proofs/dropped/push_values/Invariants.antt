use Rattle.std.proofs.Common.{◌≡◌, ◌++◌, map, length}
use Rattle.graph.specs.declared.parts.KeyedValue.{KeyedValue}
use Rattle.materialise.specs.Beyond.{emptied_value}
use Rattle.materialise.proofs.dropped.push_values.Given as goal

abbrev pub invariant-loop-left : goal.invariant-loop-left
invariant-loop-left l =
    l.fn.after ++ map {B = KeyedValue} (λ entry. record { key = entry.key; value = emptied_value l.graph l.key l.links entry.value }) l.values
    ≡ l.after ++ map {B = KeyedValue} (λ entry. record { key = entry.key; value = emptied_value l.graph l.key l.links entry.value }) l.left

abbrev pub decreases-loop-left : goal.decreases-loop-left
decreases-loop-left l = length l.left
