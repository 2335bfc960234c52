-- The line is that of the form.
use Rattle.lowering.proofs.PlaceLines.{void_called}
use Rattle.lowering.proofs.Onward.{on_ok}
use Rattle.lowering.proofs.work.calling_line.Goals as goal

pub returns : goal.returns
returns c = on_ok c.called.result (void_called _ _ _ _ _ _ _ _ _) c.called.ensures
