use Rattle.graph.proofs.AllThere.{StandsFor-all}
use Rattle.graph.proofs.laws.stood_for_with_all_blocks.Goals as goal

pub returns : goal.returns
returns c = StandsFor-all
