use Rattle.std.proofs.Common.{refl}
use Rattle.materialise.proofs.laws.first_nodes_are_as_worked_out.Goals as goal

pub returns : goal.returns
returns c = record { cases = refl; both = refl; own = refl }
