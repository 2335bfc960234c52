-- What is still to stand.
use Rattle.std.proofs.Common.{◌≡◌}
use Rattle.lowering.specs.Placing.{with_spares}
use Rattle.lowering.proofs.standing.with_spares.Given as goal

abbrev pub invariant-loop-left : goal.invariant-loop-left
invariant-loop-left l = with_spares l.spare l.left l.standing ≡ with_spares l.fn.first l.fn.count l.fn.standing

abbrev pub decreases-loop-left : goal.decreases-loop-left
decreases-loop-left l = l.left
