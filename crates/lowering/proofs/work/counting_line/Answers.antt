-- The line is that of the form.
use Rattle.lowering.proofs.PlaceLines.{void_counted}
use Rattle.lowering.proofs.Onward.{on_ok}
use Rattle.lowering.proofs.work.counting_line.Goals as goal

pub returns : goal.returns
returns c = on_ok c.counted.result (void_counted _ _ _ _ _ _ _ _ _ _) c.counted.ensures
