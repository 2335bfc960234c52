use Rattle.std.proofs.Common.{◌≡◌, ◌++◌, length}
use Rattle.std.specs.List.{filter}
use Rattle.materialise.specs.SplitFirst.{is_own}
use Rattle.materialise.proofs.own_addresses.push_own.Given as goal

abbrev pub invariant-loop-left : goal.invariant-loop-left
invariant-loop-left l = l.fn.own ++ filter (λ entry. is_own l.key entry.value) l.values ≡ l.own ++ filter (λ entry. is_own l.key entry.value) l.left

abbrev pub decreases-loop-left : goal.decreases-loop-left
decreases-loop-left l = length l.left
