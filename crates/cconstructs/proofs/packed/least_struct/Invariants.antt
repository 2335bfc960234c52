use Rattle.std.proofs.Common.{◌≡◌, drop}
use Rattle.cconstructs.specs.LayoutFinding.{least_struct, lesser}
use Rattle.cconstructs.proofs.packed.least_struct.Given as goal

abbrev pub invariant-loop-at : goal.invariant-loop-at
invariant-loop-at l = lesser l.least (least_struct l.line (drop l.at l.row)) ≡ least_struct l.line l.row
