-- The worked examples hold by computation.
use Rattle.std.proofs.Common.{refl}
use Rattle.arithmetic.specs.Examples.{AreValues, AreConverted, AreComputed}

pub values : AreValues
values = record {
  least_char = refl;
  greatest_char = refl;
  minus_one = refl;
  unsigned_char = refl;
  least_short = refl;
  least_int = refl;
  least_long = refl;
  greatest_long = refl;
  unsigned_long = refl;
  higher_bytes = refl;
  least_of_int = refl;
  greatest_of_int = refl;
  least_of_unsigned = refl;
  greatest_of_unsigned = refl;
  in_char = refl;
  below_char = refl;
  above_char = refl;
  in_unsigned_char = refl;
  above_unsigned_char = refl;
  below_unsigned_char = refl;
}

pub conversions : AreConverted
conversions = record {
  int_to_char = refl;
  int_to_signed_char = refl;
  char_to_long = refl;
  unsigned_char_to_long = refl;
  char_to_short = refl;
  int_to_long = refl;
  unsigned_to_long = refl;
  long_to_int = refl;
  int_to_unsigned = refl;
  truth_of_256 = refl;
  truth_of_zero = refl;
  truth_of_minus_one = refl;
}

pub computations : AreComputed
computations = record {
  sum_wraps = refl;
  unsigned_sum_wraps = refl;
  difference_wraps = refl;
  below_zero = refl;
  product_wraps = refl;
  product_of_minus_ones = refl;
  quotient_towards_zero = refl;
  remainder_of_negative = refl;
  quotient_by_negative = refl;
  remainder_by_negative = refl;
  unsigned_quotient = refl;
  unsigned_remainder = refl;
  least_by_minus_one = refl;
  remainder_of_least = refl;
  least_long_by_minus_one = refl;
  remainder_of_least_long = refl;
  by_zero = refl;
  remainder_by_zero = refl;
  bits_and = refl;
  bits_or = refl;
  bits_xor = refl;
  by_last_bit = refl;
  by_width = refl;
  by_width_right = refl;
  by_last_bit_right = refl;
  unsigned_last_bit = refl;
  by_minus_one = refl;
  by_large_amount = refl;
  by_none = refl;
  left_wraps = refl;
  right_of_negative = refl;
  right_of_unsigned = refl;
  minus_one_is_less = refl;
  largest_is_not_less = refl;
  not_less_than_itself = refl;
  less_or_equal = refl;
  least_is_least = refl;
  equal_bits = refl;
  unequal_bits = refl;
  minus_least = refl;
  minus_one_of_unsigned = refl;
  minus_zero = refl;
  complement_of_zero = refl;
  complement_of_long = refl;
}
