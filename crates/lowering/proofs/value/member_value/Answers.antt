-- The value is that of the form.
use Rattle.lowering.proofs.Lines.{load_member}
use Rattle.lowering.proofs.Onward.{on_ok}
use Rattle.lowering.proofs.value.member_value.Goals as goal

pub returns : goal.returns
returns c = on_ok c.loaded.result (load_member _ _ _ _ _ _ _ _ _ _ _) c.loaded.ensures
