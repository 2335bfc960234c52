use Rattle.graph.proofs.Numbered.{numbering_renames}
use Rattle.graph.proofs.laws.numbering_is_a_renaming.Goals as goal

pub returns : goal.returns
returns c = numbering_renames
