use Rattle.std.proofs.Common.{◌≡◌, ◌+◌, ◌-◌, ◌≤◌, drop, length}
use Rattle.cparser.specs.StatementSteps.{labels_length}
use Rattle.cparser.proofs.labels.labels_length.Given as goal

abbrev pub invariant-labels : goal.invariant-labels
invariant-labels l = (l.count + labels_length l.scope (drop l.count l.row) ≡ labels_length l.scope l.row) × (l.count ≤ length l.row)

abbrev pub decreases-labels : goal.decreases-labels
decreases-labels l = length l.row - l.count
