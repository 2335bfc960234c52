use Rattle.std.proofs.Common.{◌≡◌, drop}
use Rattle.cconstructs.specs.Finding.{at_front, first_from}
use Rattle.cconstructs.proofs.constructs.first_of_row.Given as goal

abbrev pub invariant-loop-at : goal.invariant-loop-at
invariant-loop-at l = first_from l.at l.before (drop l.at l.row) ≡ first_from 0 at_front l.row
