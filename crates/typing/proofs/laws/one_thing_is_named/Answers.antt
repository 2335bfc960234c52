-- Of things that are broken one is named.
use Rattle.typing.proofs.Least.{one_is_named}
use Rattle.typing.proofs.laws.one_thing_is_named.Goals as goal

pub returns : goal.returns
returns c = one_is_named
