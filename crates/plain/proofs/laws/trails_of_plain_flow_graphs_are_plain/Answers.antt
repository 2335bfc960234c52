use Rattle.trail.specs.Analysis.{tested, widened, near_by}
use Rattle.plain.proofs.ChainShown.{keeps_plain}
use Rattle.plain.proofs.laws.trails_of_plain_flow_graphs_are_plain.Goals as goal

pub returns : goal.returns
returns c = λ tests. keeps_plain (tested tests) (widened tests) (near_by tests)
