use Rattle.cover.proofs.Celled.{has_fingerprint}
use Rattle.cover.proofs.laws.a_graph_has_a_fingerprint.Goals as goal

pub returns : goal.returns
returns c = has_fingerprint
