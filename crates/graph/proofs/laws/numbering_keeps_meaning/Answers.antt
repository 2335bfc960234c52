use Rattle.graph.proofs.Numbered.{numbering_keeps}
use Rattle.graph.proofs.laws.numbering_keeps_meaning.Goals as goal

pub returns : goal.returns
returns c = numbering_keeps
