use Rattle.std.proofs.Common.{◌≡◌, ◌++◌, nat_lt, length}
use Rattle.std.specs.List.{filter}
use Rattle.block_steps.proofs.entering.keep_below.Given as goal

abbrev pub invariant-loop-left : goal.invariant-loop-left
invariant-loop-left l = l.fn.kept ++ filter (λ named. nat_lt named.variable l.bound) l.variables ≡ l.kept ++ filter (λ named. nat_lt named.variable l.bound) l.left

abbrev pub decreases-loop-left : goal.decreases-loop-left
decreases-loop-left l = length l.left
