use Rattle.std.proofs.Common.{◌≡◌, ◌≤◌, length, take}
use Rattle.cgrammar.specs.Scope.{found}
use Rattle.cgrammar.proofs.scope.found.Given as goal

abbrev pub invariant-loop-left : goal.invariant-loop-left
invariant-loop-left l = (found l.name l.sets ≡ found l.name (take l.left l.sets)) × (l.left ≤ length l.sets)

abbrev pub decreases-loop-left : goal.decreases-loop-left
decreases-loop-left l = l.left
