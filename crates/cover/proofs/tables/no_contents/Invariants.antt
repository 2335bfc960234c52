use Rattle.std.proofs.Common.{◌≡◌, ◌≤◌, ◌-◌, None, replicate}
use Rattle.cover.proofs.tables.no_contents.Given as goal

abbrev pub invariant-loop-at : goal.invariant-loop-at
invariant-loop-at l = (l.table.items ≡ replicate l.at None) × (l.at ≤ l.count)

abbrev pub decreases-loop-at : goal.decreases-loop-at
decreases-loop-at l = l.count - l.at
