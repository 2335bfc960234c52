-- The rows hold by computation.
use Rattle.std.proofs.Common.{refl}
use Rattle.typing.specs.ctypes.IntegerRows.{ArePromoted, AreCommon}
use Rattle.typing.specs.ctypes.BinaryRows.{AreArithmetic, AreSums, AreCompared, AreTested}
use Rattle.typing.specs.ctypes.UnaryRows.{AreUnary, AreCounted, AreIndexed}
use Rattle.typing.specs.ctypes.ConvertingRows.{AreCast, AreConverted, AreAssigned, AreUpdated}
use Rattle.typing.specs.ctypes.ChoosingRows.{AreChosen}

pub are_promoted : ArePromoted
are_promoted = record {
  char_is_int = refl;
  unsigned_char_is_int = refl;
  short_is_int = refl;
  unsigned_short_is_int = refl;
  bool_is_int = refl;
  int_is_int = refl;
  unsigned_is_kept = refl;
  long_is_kept = refl;
  long_of_four_bytes = refl;
  unsigned_long_of_four_bytes = refl;
  unsigned_long_is_kept = refl;
}

pub are_common : AreCommon
are_common = record {
  shorts = refl;
  chars = refl;
  bools = refl;
  bool_and_unsigned = refl;
  short_and_unsigned = refl;
  int_and_unsigned = refl;
  unsigned_and_int = refl;
  long_and_unsigned = refl;
  unsigned_and_long = refl;
  long_and_unsigned_of_four = refl;
  unsigned_and_long_of_four = refl;
  long_and_int_of_four = refl;
  unsigned_long_and_int = refl;
  unsigned_long_and_long_long = refl;
  unsigned_long_and_long_long_of_four = refl;
  unsigned_long_long_and_long = refl;
  unsigned_long_long_and_char = refl;
  long_long_and_char = refl;
}

pub are_arithmetic : AreArithmetic
are_arithmetic = record {
  ints = refl;
  chars = refl;
  unsigned_and_int = refl;
  shorts = refl;
  bools = refl;
  long_and_unsigned = refl;
  long_and_unsigned_of_four = refl;
  pointer_times_int = refl;
  int_and_pointer = refl;
  struct_or_int = refl;
  int_by_void = refl;
  array_by_int = refl;
  char_by_long = refl;
  unsigned_by_long = refl;
  long_by_int = refl;
  int_by_pointer = refl;
  pointer_by_int = refl;
}

pub are_sums : AreSums
are_sums = record {
  int_and_unsigned = refl;
  pointer_and_int = refl;
  int_and_pointer = refl;
  bool_and_pointer = refl;
  pointers = refl;
  void_pointer_and_int = refl;
  incomplete_and_int = refl;
  int_and_incomplete = refl;
  array_and_int = refl;
  struct_and_int = refl;
  pointer_and_void = refl;
  pointer_less_int = refl;
  array_less_int = refl;
  void_pointer_less_int = refl;
  incomplete_less_int = refl;
  int_less_pointer = refl;
  pointer_less_pointer = refl;
  array_less_array = refl;
  void_pointer_less_void_pointer = refl;
  incomplete_less_incomplete = refl;
  struct_less_struct = refl;
}

pub are_compared : AreCompared
are_compared = record {
  unsigned_below_unsigned = refl;
  long_above_char = refl;
  bool_at_most_bool = refl;
  pointer_below_pointer = refl;
  array_at_least_pointer = refl;
  pointer_below_zero = refl;
  int_above_pointer = refl;
  struct_below_struct = refl;
  int_is_long = refl;
  pointer_is_other_pointer = refl;
  pointer_is_void_pointer = refl;
  pointer_is_zero = refl;
  zero_is_pointer = refl;
  pointer_is_int = refl;
  int_is_pointer = refl;
  array_is_pointer = refl;
  pointer_is_null_pointer = refl;
  int_is_null_pointer = refl;
  struct_is_struct = refl;
  void_is_void = refl;
}

pub are_tested : AreTested
are_tested = record {
  pointer_and_int = refl;
  array_or_bool = refl;
  struct_and_int = refl;
  int_or_void = refl;
  char_behind_int = refl;
  array_behind_int = refl;
  int_behind_void = refl;
  void_behind_int = refl;
  bool_behind_int = refl;
  int_behind_struct = refl;
  struct_behind_int = refl;
}

pub are_unary : AreUnary
are_unary = record {
  plus_short = refl;
  minus_bool = refl;
  minus_unsigned = refl;
  flip_char = refl;
  flip_pointer = refl;
  minus_array = refl;
  plus_void = refl;
  not_pointer = refl;
  not_array = refl;
  not_long = refl;
  not_struct = refl;
  not_void = refl;
  follow_pointer = refl;
  follow_array = refl;
  follow_void_pointer = refl;
  follow_incomplete = refl;
  follow_int = refl;
  follow_struct = refl;
  address_of_object = refl;
  address_of_array = refl;
  address_of_struct = refl;
  address_of_value = refl;
}

pub are_counted : AreCounted
are_counted = record {
  char_object = refl;
  bool_object = refl;
  pointer_object = refl;
  void_pointer_object = refl;
  incomplete_object = refl;
  array = refl;
  struct_object = refl;
  int_value = refl;
  incomplete_value = refl;
}

pub are_indexed : AreIndexed
are_indexed = record {
  array_and_int = refl;
  int_and_array = refl;
  pointer_and_bool = refl;
  void_pointer_and_int = refl;
  incomplete_and_int = refl;
  int_and_incomplete = refl;
  pointer_and_pointer = refl;
  int_and_int = refl;
  struct_and_int = refl;
  first_member = refl;
  second_member = refl;
  front_of_a_name = refl;
  member_of_incomplete = refl;
  member_of_pointer = refl;
  member_of_int = refl;
  member_of_void = refl;
  member_through_int = refl;
  member_through_struct = refl;
}

pub are_cast : AreCast
are_cast = record {
  int_to_char = refl;
  int_to_bool = refl;
  int_to_void = refl;
  pointer_to_void = refl;
  void_to_void = refl;
  struct_to_void = refl;
  void_to_int = refl;
  void_to_pointer = refl;
  struct_to_int = refl;
  pointer_to_long = refl;
  array_to_long = refl;
  null_pointer_to_int = refl;
  offsetof_to_long = refl;
  offsetof_to_bool = refl;
  pointer_to_bool = refl;
  int_to_pointer = refl;
  zero_to_pointer = refl;
  long_zero_to_void_pointer = refl;
  pointer_to_other_pointer = refl;
  array_to_pointer = refl;
  int_to_struct = refl;
  struct_to_struct = refl;
  pointer_to_array = refl;
}

pub are_converted : AreConverted
are_converted = record {
  char_to_int = refl;
  long_to_bool = refl;
  pointer_to_other_pointer = refl;
  pointer_to_void_pointer = refl;
  array_to_pointer = refl;
  zero_to_pointer = refl;
  null_pointer_to_pointer = refl;
  int_to_pointer = refl;
  pointer_to_int = refl;
  pointer_to_bool = refl;
  pointer_to_unsigned_char = refl;
  struct_to_same = refl;
  struct_to_other = refl;
  struct_to_int = refl;
  void_to_int = refl;
  void_to_pointer = refl;
  array_to_array = refl;
}

pub are_assigned : AreAssigned
are_assigned = record {
  char_to_int = refl;
  pointer_to_bool = refl;
  zero_to_pointer = refl;
  array_to_pointer = refl;
  int_to_pointer = refl;
  void_to_int = refl;
  struct_to_int = refl;
  int_to_value = refl;
  pointer_to_value = refl;
  array_to_array = refl;
  int_to_void = refl;
  struct_to_struct = refl;
  struct_to_other_struct = refl;
}

pub are_updated : AreUpdated
are_updated = record {
  unsigned_to_int = refl;
  long_to_char = refl;
  int_to_bool = refl;
  int_to_pointer = refl;
  int_from_void_pointer = refl;
  pointer_to_int = refl;
  pointer_from_pointer = refl;
  array_from_array = refl;
  int_to_incomplete = refl;
  int_to_array = refl;
  pointer_by_int = refl;
  struct_by_int = refl;
  int_to_value = refl;
  pointer_to_value = refl;
}

pub are_chosen : AreChosen
are_chosen = record {
  pointer_as_test = refl;
  array_as_test = refl;
  struct_as_test = refl;
  void_as_test = refl;
  chars = refl;
  bools = refl;
  int_and_unsigned = refl;
  long_and_unsigned = refl;
  long_and_unsigned_of_four = refl;
  same_pointers = refl;
  different_pointers = refl;
  pointer_and_void_pointer = refl;
  void_pointer_and_pointer = refl;
  pointer_and_null_pointer = refl;
  null_pointer_and_pointer = refl;
  null_pointers = refl;
  null_pointer_and_void_pointer = refl;
  incomplete_and_incomplete = refl;
  pointer_and_zero = refl;
  zero_and_pointer = refl;
  array_and_zero = refl;
  pointer_and_int = refl;
  int_and_pointer = refl;
  null_pointer_and_int = refl;
  voids = refl;
  void_and_int = refl;
  zero_and_void = refl;
  pointer_and_void = refl;
  structs = refl;
  struct_and_zero = refl;
}
