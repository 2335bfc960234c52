use Rattle.std.proofs.Common.{refl}
use Rattle.materialise.proofs.laws.drops_are_as_worked_out.Goals as goal

pub returns : goal.returns
returns c = record { null = refl; number = refl; through = refl }
