use Rattle.graph.proofs.Unheld.{what_nothing_holds_may_go}
use Rattle.graph.proofs.laws.what_nothing_holds_may_go.Goals as goal

pub returns : goal.returns
returns c = what_nothing_holds_may_go
