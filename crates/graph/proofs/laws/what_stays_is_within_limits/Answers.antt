use Rattle.graph.proofs.UnheldForm.{what_stays_is_within_limits}
use Rattle.graph.proofs.laws.what_stays_is_within_limits.Goals as goal

pub returns : goal.returns
returns c = what_stays_is_within_limits
