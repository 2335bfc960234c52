-- The kind of the operand says which line.
use Rattle.lowering.proofs.Lines.{count_is}
use Rattle.lowering.proofs.Onward.{on_ok}
use Rattle.lowering.proofs.value.counted.Goals as goal

pub returns : goal.returns
returns c = on_ok c.count_line.result (count_is _ _ _ _ _ _ _ _ _ _ _ _ c.in_ok-own.ensures) c.count_line.ensures
