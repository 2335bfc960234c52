use Rattle.std.proofs.Common.{◌≤◌, length, map, drop}
use Rattle.cgrammar.specs.Bounds.{IsRestored}
use Rattle.cgrammar.proofs.numbers.restore.Given as goal

abbrev pub invariant-loop-left : goal.invariant-loop-left
invariant-loop-left l = IsRestored (map (λ entry. (entry.0.items, entry.1)) (drop l.left l.others.entries)) (map (λ entry. (entry.0.items, entry.1)) l.fn.table.entries) (map (λ entry. (entry.0.items, entry.1)) l.table.entries)
    × (l.left ≤ length l.others.entries)

abbrev pub decreases-loop-left : goal.decreases-loop-left
decreases-loop-left l = l.left
