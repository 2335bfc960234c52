use Rattle.std.proofs.Common.{◌≡◌, ◌++◌, not, length}
use Rattle.std.specs.List.{filter}
use Rattle.changes.specs.Merging.{names_key}
use Rattle.changes.proofs.pairs.push_others.Given as goal

abbrev pub invariant-loop-left : goal.invariant-loop-left
invariant-loop-left l = l.fn.others ++ filter (λ pair. not (names_key l.gone pair)) l.pairs ≡ l.others ++ filter (λ pair. not (names_key l.gone pair)) l.left

abbrev pub decreases-loop-left : goal.decreases-loop-left
decreases-loop-left l = length l.left
