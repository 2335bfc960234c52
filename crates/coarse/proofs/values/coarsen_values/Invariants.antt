use Rattle.std.proofs.Common.{◌≡◌, ◌++◌, ◌&&◌, not, true, map, length, if◌then◌else◌}
use Rattle.std.specs.List.{list_all}
use Rattle.graph.specs.declared.parts.KeyedValue.{KeyedValue}
use Rattle.graph.specs.Sizes.{is_sized}
use Rattle.tidying.specs.Marks.{is_marked}
use Rattle.coarse.specs.Beyond.{is_beyond, forgotten}
use Rattle.coarse.proofs.values.coarsen_values.Given as goal

abbrev pub invariant-loop-left : goal.invariant-loop-left
invariant-loop-left l =
    (list_all (λ entry. is_sized entry.value) l.left ≡ true)
    × (l.fn.done ++ map {B = KeyedValue} (λ entry. record { key = entry.key; value = if is_beyond l.limit entry.value && not (is_marked l.marks entry.key) then forgotten entry.value else entry.value }) l.values
    ≡ l.done ++ map {B = KeyedValue} (λ entry. record { key = entry.key; value = if is_beyond l.limit entry.value && not (is_marked l.marks entry.key) then forgotten entry.value else entry.value }) l.left)

abbrev pub decreases-loop-left : goal.decreases-loop-left
decreases-loop-left l = length l.left
