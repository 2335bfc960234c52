use Rattle.typing.proofs.environment.Bounds.{definition_below}
use Rattle.typing.proofs.environment.laws.functions_keep_bounds.Goals as goal

pub returns-clause-definition : goal.returns-clause-definition
returns-clause-definition c = definition_below
