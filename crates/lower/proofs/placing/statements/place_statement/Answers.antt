-- The clause is that of the statement.
use Rattle.lowering.proofs.Onward.{on_ok}
use Rattle.lower.proofs.PiecesPlaced.{by_clause}
use Rattle.lower.proofs.placing.statements.place_statement.Goals as goal

pub returns : goal.returns
returns c = on_ok c.place_clause.result (by_clause _ _ _ _ _ _ _ _ _ _ _ c.read_clause-clause.ensures) c.place_clause.ensures
