use Rattle.graph.proofs.Alike.{unseen_may_differ}
use Rattle.graph.proofs.laws.what_is_not_seen_may_differ.Goals as goal

pub returns : goal.returns
returns c = unseen_may_differ
