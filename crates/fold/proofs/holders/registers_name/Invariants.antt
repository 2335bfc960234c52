use Rattle.std.proofs.Common.{◌≡◌, length}
use Rattle.std.specs.List.{list_any}
use Rattle.graph.specs.WellFormed.{passes_at}
use Rattle.graph.specs.Large.{leads_to}
use Rattle.fold.proofs.holders.registers_name.Given as goal

abbrev pub invariant-loop-left : goal.invariant-loop-left
invariant-loop-left l = list_any (λ held. passes_at l.graph (leads_to l.key) held.value) l.registers ≡ list_any (λ held. passes_at l.graph (leads_to l.key) held.value) l.left

abbrev pub decreases-loop-left : goal.decreases-loop-left
decreases-loop-left l = length l.left
