use Rattle.graph.proofs.Renamed.{renaming_hands_on}
use Rattle.graph.proofs.segment_laws.renaming_hands_on_words_and_blocks.Goals as goal

pub returns : goal.returns
returns c = renaming_hands_on
