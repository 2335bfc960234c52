-- The own kind, decayed.
use Rattle.lowering.proofs.Sources.{value_kind_is}
use Rattle.lowering.proofs.source.value_kind.Goals as goal

pub returns-in-Ok : goal.returns-in-Ok
returns-in-Ok c = value_kind_is _ _ _ _ c.in-Ok.ensures c.decayed.ensures
