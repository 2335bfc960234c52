use Rattle.std.proofs.Common.{◌≡◌, length, map}
use Rattle.graph.specs.WellFormed.{are_distinct}
use Rattle.graph.proofs.distinct.storage_is_apart.Given as goal

abbrev pub invariant-loop-left : goal.invariant-loop-left
invariant-loop-left l = are_distinct (map (λ entry. entry.object) l.variables) ≡ are_distinct (map (λ entry. entry.object) l.left)

abbrev pub decreases-loop-left : goal.decreases-loop-left
decreases-loop-left l = length l.left
