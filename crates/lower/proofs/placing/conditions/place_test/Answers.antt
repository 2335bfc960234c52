-- The form is that of the expression.
use Rattle.lowering.proofs.Onward.{on_ok}
use Rattle.lower.proofs.PiecesPlaced.{test_by_form}
use Rattle.lower.proofs.placing.conditions.place_test.Goals as goal

pub returns : goal.returns
returns c = on_ok c.place_test_by.result (test_by_form _ _ _ _ _ _ _ _ _ c.read_form-form.ensures _ _ _ _) c.place_test_by.ensures
