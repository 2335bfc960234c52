-- The value is converted.
use Rattle.lowering.proofs.Lines.{cast_is}
use Rattle.lowering.proofs.Onward.{on_ok}
use Rattle.lowering.proofs.value.cast_value.Goals as goal

pub returns : goal.returns
returns c = on_ok c.converts.result (cast_is _ _ _ _ _ _ _ _ _ c.in_ok-kind.ensures) c.converts.ensures
