use Rattle.std.proofs.Common.{◌≡◌, length}
use Rattle.std.specs.List.{list_any}
use Rattle.graph.specs.WellFormed.{passes_at}
use Rattle.heap_steps.specs.Unreached.{is_any}
use Rattle.heap_steps.proofs.anywhere.ports_hold_any.Given as goal

abbrev pub invariant-loop-left : goal.invariant-loop-left
invariant-loop-left l = list_any (passes_at l.graph is_any) l.ports ≡ list_any (passes_at l.graph is_any) l.left

abbrev pub decreases-loop-left : goal.decreases-loop-left
decreases-loop-left l = length l.left
