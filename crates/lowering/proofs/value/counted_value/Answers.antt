-- The value is that of the form.
use Rattle.lowering.proofs.Lines.{value_counted}
use Rattle.lowering.proofs.Onward.{on_ok}
use Rattle.lowering.proofs.value.counted_value.Goals as goal

pub returns : goal.returns
returns c = on_ok c.counted.result (value_counted _ _ _ _ _ _ _ _ _ _ _) c.counted.ensures
