use Rattle.std.proofs.Common.{◌≡◌, ◌&&◌, not, true, length}
use Rattle.std.specs.List.{list_all, list_any}
use Rattle.graph.specs.Sizes.{is_sized}
use Rattle.tidying.specs.Marks.{is_marked}
use Rattle.coarse.specs.Beyond.{is_beyond}
use Rattle.coarse.proofs.values.goes_any.Given as goal

abbrev pub invariant-loop-left : goal.invariant-loop-left
invariant-loop-left l =
    (list_all (λ entry. is_sized entry.value) l.left ≡ true)
    × (list_any (λ entry. is_beyond l.limit entry.value && not (is_marked l.marks entry.key)) l.values
    ≡ list_any (λ entry. is_beyond l.limit entry.value && not (is_marked l.marks entry.key)) l.left)

abbrev pub decreases-loop-left : goal.decreases-loop-left
decreases-loop-left l = length l.left
