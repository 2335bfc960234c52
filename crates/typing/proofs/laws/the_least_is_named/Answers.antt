-- Of two things that are found at one place the least is named.
use Rattle.typing.proofs.Least.{the_least}
use Rattle.typing.proofs.laws.the_least_is_named.Goals as goal

pub returns : goal.returns
returns c = the_least
