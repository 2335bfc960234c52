-- All before a place are.
use Rattle.std.proofs.Common.{◌≡◌, ◌-◌, ◌≤◌, drop}
use Rattle.lowering.specs.Calls.{are_sized_as}
use Rattle.lowering.proofs.called.are_sized.Given as goal

abbrev pub invariant-loop-at : goal.invariant-loop-at
invariant-loop-at l = (l.at ≤ l.count) × (are_sized_as l.kinds l.objects ≡ are_sized_as (drop l.at l.kinds) (drop l.at l.objects))

abbrev pub decreases-loop-at : goal.decreases-loop-at
decreases-loop-at l = l.count - l.at
