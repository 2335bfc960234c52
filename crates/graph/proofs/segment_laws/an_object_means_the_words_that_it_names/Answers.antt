use Rattle.graph.proofs.Frames.{HasBlocks-agree}
use Rattle.graph.proofs.segment_laws.an_object_means_the_words_that_it_names.Goals as goal

pub returns : goal.returns
returns c = λ memory object word word' own own' blocks agree has. HasBlocks-agree word word' own own' object.live memory object blocks agree has
