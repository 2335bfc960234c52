-- The starts hold by computation.
use Rattle.std.proofs.Common.{refl}
use Rattle.flow.specs.StartRows.{AreStarts}

pub starts : AreStarts
starts = record {
  statics_made = refl;
  none_to_make = refl;
  number_held = refl;
  address_held = refl;
  address_before = refl;
  no_address = refl;
  initials_held = refl;
  later_holds = refl;
  no_initial = refl;
  begins = refl;
  second_over_first = refl;
  parameter_over_first = refl;
  parameter_over_second = refl;
  not_zero = refl;
  second_not_zero = refl;
  exchanged = refl;
  no_block = refl;
  given = refl;
  first_waits = refl;
  second_waits = refl;
  parameter_waits = refl;
}
