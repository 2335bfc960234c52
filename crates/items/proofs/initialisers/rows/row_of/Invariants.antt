use Rattle.items.proofs.initialisers.Constants.{IsNone}
use Rattle.items.proofs.initialisers.rows.row_of.Given as goal

abbrev pub invariant-loop-at : goal.invariant-loop-at
invariant-loop-at l = IsNone l.number l.rows l.at
