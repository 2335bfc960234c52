-- The load at its place.
use Rattle.lowering.proofs.Lines.{load_is}
use Rattle.lowering.proofs.Onward.{on_ok}
use Rattle.lowering.proofs.value.loaded.Goals as goal

pub returns : goal.returns
returns c = on_ok c.load_line.result (load_is _ _ _ _ _ _ _ _ _ c.in_ok-kind.ensures) c.load_line.ensures
