use Rattle.graph.proofs.Renamed.{renaming_keeps}
use Rattle.graph.proofs.laws.renaming_keeps_meaning.Goals as goal

pub returns : goal.returns
returns c = renaming_keeps
