use Rattle.graph.proofs.Unheld.{StandsFor-with_only}
use Rattle.graph.proofs.laws.what_nothing_holds_says_nothing.Goals as goal

pub returns : goal.returns
returns c = StandsFor-with_only
