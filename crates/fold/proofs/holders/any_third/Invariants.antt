use Rattle.std.proofs.Common.{◌≡◌, length}
use Rattle.std.specs.List.{list_any}
use Rattle.graph.specs.WellFormed.{passes_at}
use Rattle.fold.specs.Holders.{is_third}
use Rattle.fold.proofs.holders.any_third.Given as goal

abbrev pub invariant-loop-left : goal.invariant-loop-left
invariant-loop-left l = list_any (λ edge. passes_at l.graph (is_third l.key l.near l.place) edge.value) l.edges ≡ list_any (λ edge. passes_at l.graph (is_third l.key l.near l.place) edge.value) l.left

abbrev pub decreases-loop-left : goal.decreases-loop-left
decreases-loop-left l = length l.left
