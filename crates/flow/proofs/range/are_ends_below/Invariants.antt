use Rattle.std.proofs.Common.{◌<◌}
use Rattle.std.specs.List.{AllWithin}
use Rattle.flow.proofs.range.are_ends_below.Given as goal

abbrev pub invariant-loop-edge : goal.invariant-loop-edge
invariant-loop-edge l = AllWithin (λ edge. (edge.from < l.points) × (edge.to < l.points)) l.edges 0 l.edge-index
