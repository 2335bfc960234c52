-- The worked tests hold by computation.
use Rattle.std.proofs.Common.{refl}
use Rattle.reinterpret.specs.TestExamples.{AreTests}

pub are_tests : AreTests
are_tests = record {
  equal_constants = refl;
  equal_constants_differ = refl;
  other_constants = refl;
  other_constants_differ = refl;
  number_itself = refl;
  number_differs_from_itself = refl;
  numbers_same = refl;
  numbers_differ = refl;
  noted_same = refl;
  noted_differ = refl;
  number_and_constant = refl;
  constant_and_number = refl;
  number_and_zero = refl;
  number_differs_from_constant = refl;
  excluded = refl;
  excluded_differs = refl;
  pairs_move = refl;
  pairs_meet = refl;
  pairs_go = refl;
  byte_and_constant = refl;
  byte_differs = refl;
  address_and_null = refl;
  null_differs_from_address = refl;
  address_itself = refl;
  addresses_same = refl;
  addresses_differ = refl;
  behind_one = refl;
  behind_one_differs = refl;
  dead_and_null = refl;
  dead_itself = refl;
  dead_differs_from_itself = refl;
  any_and_null = refl;
  any_differs = refl;
}
