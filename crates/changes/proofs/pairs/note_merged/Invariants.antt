use Rattle.std.proofs.Common.{◌≡◌, length}
use Rattle.std.specs.List.{filter, fold}
use Rattle.changes.specs.Merging.{names_key, merged_pair, noted}
use Rattle.changes.proofs.pairs.note_merged.Given as goal

abbrev pub invariant-loop-left : goal.invariant-loop-left
invariant-loop-left l = fold (λ done pair. noted l.graph done (merged_pair l.kept l.gone pair)) l.fn.done (filter (names_key l.gone) l.pairs) ≡ fold (λ done pair. noted l.graph done (merged_pair l.kept l.gone pair)) l.done (filter (names_key l.gone) l.left)

abbrev pub decreases-loop-left : goal.decreases-loop-left
decreases-loop-left l = length l.left
