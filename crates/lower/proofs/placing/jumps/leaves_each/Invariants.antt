-- The blocks that are left in front of those that stand there.
use Rattle.std.proofs.Common.{◌≡◌, ◌≤◌, ◌++◌, length, map, take}
use Rattle.lowering.specs.Placing.{leaves}
use Rattle.lower.proofs.placing.jumps.leaves_each.Given as goal

abbrev pub invariant-loop-left : goal.invariant-loop-left
invariant-loop-left l =
    (l.left ≤ length l.scopes)
    × (map (λ names. leaves names l.word) (take l.left l.scopes) ++ l.line ≡ map (λ names. leaves names l.word) (take l.fn.count l.scopes) ++ l.fn.line)

abbrev pub decreases-loop-left : goal.decreases-loop-left
decreases-loop-left l = l.left
