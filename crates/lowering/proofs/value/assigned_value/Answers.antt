-- The value is that of the form.
use Rattle.lowering.proofs.Lines.{value_assigned}
use Rattle.lowering.proofs.Onward.{on_ok}
use Rattle.lowering.proofs.value.assigned_value.Goals as goal

pub returns : goal.returns
returns c = on_ok c.assigned.result (value_assigned _ _ _ _ _ _ _ _ _ _ _) c.assigned.ensures
