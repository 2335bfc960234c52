use Rattle.std.proofs.Common.{refl}
use Rattle.coarse.proofs.laws.what_is_left_is_as_worked_out.Goals as goal

pub returns : goal.returns
returns c = record { limit_10 = refl; limit_17 = refl; is_not = refl; is = refl }
