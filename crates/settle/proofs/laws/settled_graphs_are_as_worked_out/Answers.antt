use Rattle.std.proofs.Common.{refl}
use Rattle.settle.proofs.laws.settled_graphs_are_as_worked_out.Goals as goal

pub returns : goal.returns
returns c = record { one = refl; other = refl; none = refl }
