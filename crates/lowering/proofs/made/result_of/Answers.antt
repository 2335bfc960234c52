-- The kind of the result of what is called.
use Rattle.lowering.proofs.KnownParts.{result_is}
use Rattle.lowering.proofs.made.result_of.Goals as goal

pub returns : goal.returns
returns c = result_is _ _ _ _ c.kind_of_called.ensures c.in_ok-called.ensures
