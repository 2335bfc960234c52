-- The line is that of the form.
use Rattle.lowering.proofs.PlaceLines.{void_assigned}
use Rattle.lowering.proofs.Onward.{on_ok}
use Rattle.lowering.proofs.work.assignment_line.Goals as goal

pub returns : goal.returns
returns c = on_ok c.assigned.result (void_assigned _ _ _ _ _ _ _ _ _ _) c.assigned.ensures
