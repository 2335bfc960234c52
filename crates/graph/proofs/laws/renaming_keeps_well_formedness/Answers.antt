use Rattle.graph.proofs.Reformed.{renaming_keeps_form}
use Rattle.graph.proofs.laws.renaming_keeps_well_formedness.Goals as goal

pub returns : goal.returns
returns c = renaming_keeps_form
