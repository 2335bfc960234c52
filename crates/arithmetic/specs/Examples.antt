-- Worked examples at the edges: what the definitions compute.
use Rattle.std.specs.Prelude.{◌≡◌, ◌+◌, ◌-◌, ◌^◌, true, false, None, Some, pos, negsuc}
use Rattle.arithmetic.specs.declared.op.Op.TheVariants.{Add, Sub, Mul, Div, Rem, And, Or, Xor, Left, Right, Less, LessEqual}
use Rattle.arithmetic.specs.Value.{value, least, greatest, is_in_range}
use Rattle.arithmetic.specs.Conversion.{converted, truth}
use Rattle.arithmetic.specs.Comparing.{is_equal}
use Rattle.arithmetic.specs.Computing.{computed, negated, complemented}

-- the least number of a type with a sign has the highest bit alone, and -1 has all bits
pub record AreValues : Type 0 where
  pub least_char : value 1 true 128 ≡ negsuc 127
  pub greatest_char : value 1 true 127 ≡ pos 127
  pub minus_one : value 1 true 255 ≡ negsuc 0
  pub unsigned_char : value 1 false 255 ≡ pos 255
  pub least_short : value 2 true (2 ^ 15) ≡ negsuc (2 ^ 15 - 1)
  pub least_int : value 4 true (2 ^ 31) ≡ negsuc (2 ^ 31 - 1)
  pub least_long : value 8 true (2 ^ 63) ≡ negsuc (2 ^ 63 - 1)
  pub greatest_long : value 8 true (2 ^ 63 - 1) ≡ pos (2 ^ 63 - 1)
  pub unsigned_long : value 8 false (2 ^ 64 - 1) ≡ pos (2 ^ 64 - 1)
  -- bytes above those of the type do not count
  pub higher_bytes : value 1 true 511 ≡ negsuc 0
  -- the ranges (C11 5.2.4.2.1)
  pub least_of_int : least 4 true ≡ negsuc (2 ^ 31 - 1)
  pub greatest_of_int : greatest 4 true ≡ pos (2 ^ 31 - 1)
  pub least_of_unsigned : least 4 false ≡ pos 0
  pub greatest_of_unsigned : greatest 4 false ≡ pos (2 ^ 32 - 1)
  pub in_char : is_in_range 1 true (negsuc 127) ≡ true
  pub below_char : is_in_range 1 true (negsuc 128) ≡ false
  pub above_char : is_in_range 1 true (pos 128) ≡ false
  pub in_unsigned_char : is_in_range 1 false (pos 255) ≡ true
  pub above_unsigned_char : is_in_range 1 false (pos 256) ≡ false
  pub below_unsigned_char : is_in_range 1 false (negsuc 0) ≡ false

-- conversions are modulo 2^n (C11 6.3.1.3)
pub record AreConverted : Type 0 where
  -- 300 is 44 as a char, never 127, and 200 is -56
  pub int_to_char : converted 4 true 1 300 ≡ 44
  pub int_to_signed_char : value 1 true (converted 4 true 1 200) ≡ negsuc 55
  -- -1 stays -1 where the new type is larger, from a type with a sign
  pub char_to_long : converted 1 true 8 255 ≡ 2 ^ 64 - 1
  pub unsigned_char_to_long : converted 1 false 8 255 ≡ 255
  pub char_to_short : converted 1 true 2 128 ≡ 2 ^ 16 - 128
  pub int_to_long : converted 4 true 8 (2 ^ 31) ≡ 2 ^ 64 - 2 ^ 31
  pub unsigned_to_long : converted 4 false 8 (2 ^ 31) ≡ 2 ^ 31
  pub long_to_int : converted 8 true 4 (2 ^ 32 + 5) ≡ 5
  pub int_to_unsigned : converted 4 true 4 (2 ^ 32 - 1) ≡ 2 ^ 32 - 1
  -- to `_Bool` (C11 6.3.1.2p1): 256 is 1, though its lowest byte is 0
  pub truth_of_256 : truth 4 256 ≡ 1
  pub truth_of_zero : truth 4 0 ≡ 0
  pub truth_of_minus_one : truth 4 (2 ^ 32 - 1) ≡ 1

-- operators (C11 6.5.3.3, 6.5.5 to 6.5.12)
pub record AreComputed : Type 0 where
  -- the sum, the difference and the product wrap
  pub sum_wraps : computed Add 4 true (2 ^ 31 - 1) 1 ≡ Some (2 ^ 31)
  pub unsigned_sum_wraps : computed Add 4 false (2 ^ 32 - 1) 1 ≡ Some 0
  pub difference_wraps : computed Sub 4 true (2 ^ 31) 1 ≡ Some (2 ^ 31 - 1)
  pub below_zero : computed Sub 8 false 0 1 ≡ Some (2 ^ 64 - 1)
  pub product_wraps : computed Mul 4 true (2 ^ 31) (2 ^ 32 - 1) ≡ Some (2 ^ 31)
  pub product_of_minus_ones : computed Mul 8 true (2 ^ 64 - 1) (2 ^ 64 - 1) ≡ Some 1
  -- -7 / 2 is -3 and not -4, and -7 % 2 is -1; 7 % -2 is 1
  pub quotient_towards_zero : computed Div 4 true (2 ^ 32 - 7) 2 ≡ Some (2 ^ 32 - 3)
  pub remainder_of_negative : computed Rem 4 true (2 ^ 32 - 7) 2 ≡ Some (2 ^ 32 - 1)
  pub quotient_by_negative : computed Div 4 true 7 (2 ^ 32 - 2) ≡ Some (2 ^ 32 - 3)
  pub remainder_by_negative : computed Rem 4 true 7 (2 ^ 32 - 2) ≡ Some 1
  pub unsigned_quotient : computed Div 4 false (2 ^ 32 - 7) 2 ≡ Some (2 ^ 31 - 4)
  pub unsigned_remainder : computed Rem 4 false (2 ^ 32 - 7) 2 ≡ Some 1
  -- the least number divided by -1 is itself, and leaves 0
  pub least_by_minus_one : computed Div 4 true (2 ^ 31) (2 ^ 32 - 1) ≡ Some (2 ^ 31)
  pub remainder_of_least : computed Rem 4 true (2 ^ 31) (2 ^ 32 - 1) ≡ Some 0
  pub least_long_by_minus_one : computed Div 8 true (2 ^ 63) (2 ^ 64 - 1) ≡ Some (2 ^ 63)
  pub remainder_of_least_long : computed Rem 8 true (2 ^ 63) (2 ^ 64 - 1) ≡ Some 0
  -- a zero divisor has no value
  pub by_zero : computed Div 4 true 1 0 ≡ None
  pub remainder_by_zero : computed Rem 4 false 1 0 ≡ None
  -- bit by bit
  pub bits_and : computed And 1 true 12 10 ≡ Some 8
  pub bits_or : computed Or 1 true 12 10 ≡ Some 14
  pub bits_xor : computed Xor 1 true 12 10 ≡ Some 6
  -- by one bit less than there are, by as many, and by a negative amount, which is as large
  pub by_last_bit : computed Left 4 true 1 31 ≡ Some (2 ^ 31)
  pub by_width : computed Left 4 true 1 32 ≡ None
  pub by_width_right : computed Right 4 true 1 32 ≡ None
  pub by_last_bit_right : computed Right 4 true (2 ^ 31) 31 ≡ Some (2 ^ 32 - 1)
  pub unsigned_last_bit : computed Right 4 false (2 ^ 31) 31 ≡ Some 1
  pub by_minus_one : computed Left 4 true 1 (2 ^ 32 - 1) ≡ None
  -- an amount that is 0 in its lowest four bytes is not 0
  pub by_large_amount : computed Left 4 true 1 (2 ^ 32) ≡ None
  pub by_none : computed Left 4 true 5 0 ≡ Some 5
  -- the bits that leave at the left are lost, and those that come in at the right of -5 are ones
  pub left_wraps : computed Left 1 true 129 1 ≡ Some 2
  pub right_of_negative : computed Right 1 true 251 1 ≡ Some 253
  pub right_of_unsigned : computed Right 1 false 251 1 ≡ Some 125
  -- comparisons go by the sign of the type
  pub minus_one_is_less : computed Less 4 true (2 ^ 32 - 1) 0 ≡ Some 1
  pub largest_is_not_less : computed Less 4 false (2 ^ 32 - 1) 0 ≡ Some 0
  pub not_less_than_itself : computed Less 8 true 7 7 ≡ Some 0
  pub less_or_equal : computed LessEqual 8 true 7 7 ≡ Some 1
  pub least_is_least : computed LessEqual 8 true (2 ^ 63) (2 ^ 63 - 1) ≡ Some 1
  pub equal_bits : is_equal 4 true (2 ^ 32 - 1) (2 ^ 32 - 1) ≡ true
  pub unequal_bits : is_equal 4 true 0 (2 ^ 31) ≡ false
  -- the least number is its own opposite
  pub minus_least : negated 4 true (2 ^ 31) ≡ 2 ^ 31
  pub minus_one_of_unsigned : negated 4 false 1 ≡ 2 ^ 32 - 1
  pub minus_zero : negated 8 true 0 ≡ 0
  -- `~` is taken at the size of its operand
  pub complement_of_zero : complemented 4 0 ≡ 2 ^ 32 - 1
  pub complement_of_long : complemented 8 (2 ^ 32 - 1) ≡ 2 ^ 64 - 2 ^ 32
