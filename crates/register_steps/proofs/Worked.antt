-- The worked lines hold.
use Rattle.std.proofs.Common.{refl}
use Rattle.register_steps.specs.Cases.{AreMoved, AreComputed, AreConverted}

pub moves : AreMoved
moves = record {
  forwards = refl;
  backwards = refl;
  around = refl;
  of_segment = refl;
  null = refl;
  below_null = refl;
  number = refl;
  any = refl;
  items = refl;
  items_backwards = refl;
  backwards_items = refl;
  not_known = refl;
  by_pointer = refl;
  number_by_number = refl;
  any_by_number = refl;
}

pub operations : AreComputed
operations = record {
  sum = refl;
  sum_wraps = refl;
  below_zero = refl;
  by_zero = refl;
  remainder_by_zero = refl;
  by_width = refl;
  by_minus_one = refl;
  less = refl;
  not_less = refl;
  not_greater = refl;
  some_sum = refl;
  some_product = refl;
  some_bits = refl;
  of_address = refl;
  some_order = refl;
  order_of_addresses = refl;
}

pub conversions : AreConverted
conversions = record {
  constant = refl;
  variable = refl;
  no_variable = refl;
  wider = refl;
  wider_unsigned = refl;
  narrower = refl;
  of_one_size = refl;
  constant_of_one_size = refl;
  to_other_size = refl;
  of_pointer = refl;
  of_any = refl;
  input = refl;
  input_of_truth = refl;
}
