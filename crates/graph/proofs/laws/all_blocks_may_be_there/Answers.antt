use Rattle.graph.proofs.AllThere.{all_blocks_may_be_there}
use Rattle.graph.proofs.laws.all_blocks_may_be_there.Goals as goal

pub returns : goal.returns
returns c = all_blocks_may_be_there
