use Rattle.coarse.proofs.Settled.{coarse_stays}
use Rattle.coarse.proofs.laws.a_coarse_graph_stays.Goals as goal

pub returns : goal.returns
returns c = λ limit parts coarse. coarse_stays limit parts coarse
