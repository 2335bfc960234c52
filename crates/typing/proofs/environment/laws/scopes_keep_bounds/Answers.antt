use Rattle.typing.proofs.environment.Bounds.{left_below}
use Rattle.typing.proofs.environment.laws.scopes_keep_bounds.Goals as goal

pub returns-clause-left : goal.returns-clause-left
returns-clause-left c = left_below
