use Rattle.std.proofs.Common.{◌≡◌, ◌++◌, not, nat_eq, length}
use Rattle.std.specs.List.{filter}
use Rattle.changes.proofs.merge.push_others.Given as goal

abbrev pub invariant-loop-left : goal.invariant-loop-left
invariant-loop-left l = l.fn.others ++ filter (λ edge. not (nat_eq edge.value l.gone)) l.edges ≡ l.others ++ filter (λ edge. not (nat_eq edge.value l.gone)) l.left

abbrev pub decreases-loop-left : goal.decreases-loop-left
decreases-loop-left l = length l.left
