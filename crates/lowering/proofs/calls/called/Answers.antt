-- The line of what is called.
use Rattle.lowering.proofs.CalledLines.{call_is}
use Rattle.lowering.proofs.Onward.{on_ok}
use Rattle.lowering.proofs.calls.called.Goals as goal

pub returns : goal.returns
returns c = on_ok c.called_line.result (call_is _ _ _ _ _ _ _ _ _ _ _ c.in_ok-called.ensures) c.called_line.ensures
