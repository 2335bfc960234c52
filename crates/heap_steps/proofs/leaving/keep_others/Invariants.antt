use Rattle.std.proofs.Common.{◌≡◌, ◌++◌, not, nat_eq, length}
use Rattle.std.specs.List.{filter}
use Rattle.heap_steps.proofs.leaving.keep_others.Given as goal

abbrev pub invariant-loop-left : goal.invariant-loop-left
invariant-loop-left l = l.fn.kept ++ filter (λ named. not (nat_eq l.variable named.variable)) l.variables ≡ l.kept ++ filter (λ named. not (nat_eq l.variable named.variable)) l.left

abbrev pub decreases-loop-left : goal.decreases-loop-left
decreases-loop-left l = length l.left
