use Rattle.std.proofs.Common.{◌≡◌, length}
use Rattle.std.specs.List.{list_all}
use Rattle.graph.specs.WellFormed.{registers_hold_values, passes_at, may_be_held}
use Rattle.graph.proofs.points.registers_hold_values.Given as goal

abbrev pub invariant-loop-left : goal.invariant-loop-left
invariant-loop-left l = registers_hold_values l.parts ≡ list_all (λ held. passes_at l.parts may_be_held held.value) l.left

abbrev pub decreases-loop-left : goal.decreases-loop-left
decreases-loop-left l = length l.left
