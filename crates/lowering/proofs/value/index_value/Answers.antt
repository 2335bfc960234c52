-- The value is that of the form.
use Rattle.lowering.proofs.Lines.{load_index}
use Rattle.lowering.proofs.Onward.{on_ok}
use Rattle.lowering.proofs.value.index_value.Goals as goal

pub returns : goal.returns
returns c = on_ok c.loaded.result (load_index _ _ _ _ _ _ _ _ _ _) c.loaded.ensures
