use Rattle.graph.proofs.DeadObjects.{held_blocks_there}
use Rattle.graph.proofs.laws.dead_objects_that_are_held_have_their_blocks.Goals as goal

pub returns : goal.returns
returns c = held_blocks_there
