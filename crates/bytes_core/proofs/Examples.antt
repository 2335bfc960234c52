-- The worked examples hold by computation.
use Rattle.std.proofs.Common.{refl}
use Rattle.bytes_core.specs.Loss.{reached_within}
use Rattle.bytes_core.specs.Examples.{AreExamples}

pub examples : AreExamples
unfolding reached_within
examples = record {
  eight_parts = refl;
  seven_parts = refl;
  whole_pointer = refl;
  half_pointer = refl;
  kept = refl;
  no_variable = refl;
  broken_pointer = refl;
  before_start = refl;
  last_byte = refl;
  past_end = refl;
  dead_block = refl;
  memcpy_overlap = refl;
  memmove_overlap = refl;
  memcpy_beside = refl;
  empty_fill = refl;
  null_fill = refl;
  inner_free = refl;
  low_address = refl;
  high_address = refl;
  second_free = refl;
  address_of_zero = refl;
  address_below_zero = refl;
  same_address = refl;
  offset_wraps = refl;
  inside_last = refl;
  inside_end = refl;
  last_place = refl;
  past_last_place = refl;
  beside_empty = refl;
  over_live = refl;
  over_dead = refl;
}
