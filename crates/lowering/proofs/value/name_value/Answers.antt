-- A constant of an enum is known, and an object is loaded.
use Rattle.lowering.proofs.Lines.{name_loads}
use Rattle.lowering.proofs.Onward.{if_none, on_ok}
use Rattle.lowering.proofs.value.name_value.Goals as goal

pub returns-in-None : goal.returns-in-None
returns-in-None c = on_ok c.loaded.result (name_loads _ _ _ _ _ _ _ _ (if_none _ c.in-None.is c.constant_bits.ensures.none)) c.loaded.ensures
