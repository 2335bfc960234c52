use Rattle.std.proofs.Common.{◌≡◌, ◌≤◌, drop}
use Rattle.cconstructs.specs.LayoutFinding.{first_closing}
use Rattle.cconstructs.proofs.packed.closes_behind.Given as goal

abbrev pub invariant-loop-token : goal.invariant-loop-token
invariant-loop-token l = record {
  same : first_closing l.unclosed (drop l.token-index l.row) ≡ first_closing 0 l.row;
  few : l.unclosed ≤ l.token-index;
}
