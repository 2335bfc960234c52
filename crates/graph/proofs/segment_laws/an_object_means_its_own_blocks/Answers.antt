use Rattle.graph.proofs.Frames.{HasBlocks-frame}
use Rattle.graph.proofs.segment_laws.an_object_means_its_own_blocks.Goals as goal

pub returns : goal.returns
returns c = λ memory other object word own blocks same has. HasBlocks-frame memory other object word own object.live blocks same has
