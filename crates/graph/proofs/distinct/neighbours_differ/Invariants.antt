use Rattle.std.proofs.Common.{◌≡◌, length, not, nat_eq}
use Rattle.graph.specs.Points.{neighbours}
use Rattle.graph.proofs.distinct.neighbours_differ.Given as goal

abbrev pub invariant-loop-left : goal.invariant-loop-left
invariant-loop-left l = neighbours (λ one other. not (nat_eq one other)) l.numbers ≡ neighbours (λ one other. not (nat_eq one other)) l.left

abbrev pub decreases-loop-left : goal.decreases-loop-left
decreases-loop-left l = length l.left
