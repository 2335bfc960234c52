-- The value is that of the form.
use Rattle.lowering.proofs.Lines.{value_called}
use Rattle.lowering.proofs.Onward.{on_ok}
use Rattle.lowering.proofs.value.called_value.Goals as goal

pub returns : goal.returns
returns c = on_ok c.called.result (value_called _ _ _ _ _ _ _ _ _ _) c.called.ensures
