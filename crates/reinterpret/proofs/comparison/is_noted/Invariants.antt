use Rattle.std.proofs.Common.{◌≡◌, not, length}
use Rattle.std.specs.List.{list_any}
use Rattle.graph.specs.WellFormed.{differs_from}
use Rattle.reinterpret.proofs.comparison.is_noted.Given as goal

abbrev pub invariant-loop-left : goal.invariant-loop-left
invariant-loop-left l = list_any (λ pair. not (differs_from (record { left = l.one; right = l.other }) pair)) l.graph.unequal ≡ list_any (λ pair. not (differs_from (record { left = l.one; right = l.other }) pair)) l.left

abbrev pub decreases-loop-left : goal.decreases-loop-left
decreases-loop-left l = length l.left
