use Rattle.std.proofs.Common.{◌≡◌, length}
use Rattle.std.specs.List.{list_all}
use Rattle.graph.specs.WellFormed.{ports_are_values, passes_at, may_be_held}
use Rattle.graph.proofs.points.ports_are_values.Given as goal

abbrev pub invariant-loop-left : goal.invariant-loop-left
invariant-loop-left l = ports_are_values l.parts ≡ list_all (passes_at l.parts may_be_held) l.left

abbrev pub decreases-loop-left : goal.decreases-loop-left
decreases-loop-left l = length l.left
