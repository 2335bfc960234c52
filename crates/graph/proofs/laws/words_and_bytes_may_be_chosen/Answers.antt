use Rattle.graph.proofs.Witness.{chosen_state}
use Rattle.graph.proofs.laws.words_and_bytes_may_be_chosen.Goals as goal

pub returns : goal.returns
returns c = chosen_state
