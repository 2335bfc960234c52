use Rattle.std.proofs.Common.{◌≡◌}
use Rattle.std.specs.List.{AllWithin}
use Rattle.flow.specs.Standing.{stands_at, stands_after}
use Rattle.flow.proofs.edges.all_lead.Given as goal

abbrev pub invariant-loop-edge : goal.invariant-loop-edge
invariant-loop-edge l =
    AllWithin (λ edge. stands_after l.flow edge.instr (stands_at l.flow edge.from) ≡ stands_at l.flow edge.to) l.flow.edges 0 l.edge-index
