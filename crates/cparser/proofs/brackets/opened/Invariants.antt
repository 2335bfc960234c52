use Rattle.std.proofs.Common.{◌≡◌, ◌+◌, ◌-◌, ◌≤◌, length, drop}
use Rattle.cparser.specs.OperandSteps.{opened}
use Rattle.cparser.proofs.brackets.opened.Given as goal

abbrev pub invariant-tokens : goal.invariant-tokens
invariant-tokens l = (l.count + opened l.scope (drop l.count l.row) ≡ opened l.scope l.row) × (l.count ≤ length l.row)

abbrev pub decreases-tokens : goal.decreases-tokens
decreases-tokens l = length l.row - l.count
