use Rattle.std.proofs.Common.{refl}
use Rattle.materialise.proofs.laws.splits_are_as_worked_out.Goals as goal

pub returns : goal.returns
returns c = record { single = refl; own = refl; first = refl; last = refl }
