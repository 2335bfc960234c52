use Rattle.std.proofs.Common.{◌≡◌, ◌≤◌, length, drop}
use Rattle.typing.specs.environment.Kept.{uncovered}
use Rattle.typing.proofs.environment.names.uncover.Given as goal

abbrev pub invariant-loop-left : goal.invariant-loop-left
invariant-loop-left g l = (l.visible ≡ uncovered (drop l.left l.level) l.fn.visible) × (l.left ≤ length l.level)

abbrev pub decreases-loop-left : goal.decreases-loop-left
decreases-loop-left g l = l.left
