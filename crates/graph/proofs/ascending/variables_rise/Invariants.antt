use Rattle.std.proofs.Common.{◌≡◌, length, nat_lt}
use Rattle.graph.specs.Points.{neighbours}
use Rattle.graph.proofs.ascending.variables_rise.Given as goal

abbrev pub invariant-loop-left : goal.invariant-loop-left
invariant-loop-left l = neighbours (λ one other. nat_lt one.variable other.variable) l.variables ≡ neighbours (λ one other. nat_lt one.variable other.variable) l.left

abbrev pub decreases-loop-left : goal.decreases-loop-left
decreases-loop-left l = length l.left
