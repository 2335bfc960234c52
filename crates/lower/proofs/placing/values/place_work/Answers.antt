-- The form is that of the expression.
use Rattle.lowering.proofs.Onward.{on_ok}
use Rattle.lower.proofs.PiecesPlaced.{work_by_form}
use Rattle.lower.proofs.placing.values.place_work.Goals as goal

pub returns : goal.returns
returns c = on_ok c.place_work_by.result (work_by_form _ _ _ _ _ _ _ _ _ c.read_form-form.ensures _ _) c.place_work_by.ensures
