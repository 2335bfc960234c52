use Rattle.std.proofs.Common.{refl}
use Rattle.coarse.proofs.laws.constants_beyond_are_as_worked_out.Goals as goal

pub returns : goal.returns
returns c = record {
  at_the_limit = refl;
  above_it = refl;
  at_the_limit_below_0 = refl;
  below_it = refl;
  one_byte = refl;
  two_bytes = refl;
  least = refl;
  zero_limit = refl;
  number = refl;
}
