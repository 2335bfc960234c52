-- The programs hold by computation.
use Rattle.std.proofs.Common.{refl}
use Rattle.bytes_core.specs.Loss.{reached_within}
use Rattle.lowering.specs.Programs.{DoUpdatesMeet, DoCountsMeet, DoTestsMeet, DoChoicesMeet, DoOperatorsMeet, DoMembersMeet, DoCallsMeet, DoLoopsMeet, DoJumpsMeet, DoReturnsMeet, DoObjectsMeet, DoStaticsMeet}

pub do_updates_meet : DoUpdatesMeet
unfolding reached_within
do_updates_meet = record {
  plus_is = record { source = refl; along = refl; fits = record { told = refl; leads = refl; fit = refl } };
  char_wraps = record { source = refl; along = refl; fits = record { told = refl; leads = refl; fit = refl } };
  truth_plus = record { source = refl; along = refl; fits = record { told = refl; leads = refl; fit = refl } };
  update_value = record { source = refl; along = refl; fits = record { told = refl; leads = refl; fit = refl } };
  shift_is = record { source = refl; along = refl; fits = record { told = refl; leads = refl; fit = refl } };
}

pub do_counts_meet : DoCountsMeet
unfolding reached_within
do_counts_meet = record {
  old_value = record { source = refl; along = refl; fits = record { told = refl; leads = refl; fit = refl } };
  new_value = record { source = refl; along = refl; fits = record { told = refl; leads = refl; fit = refl } };
  char_counts = record { source = refl; along = refl; fits = record { told = refl; leads = refl; fit = refl } };
  truth_counts = record { source = refl; along = refl; fits = record { told = refl; leads = refl; fit = refl } };
  pointer_counts = record { source = refl; along = refl; fits = record { told = refl; leads = refl; fit = refl } };
  pointer_moves = record { source = refl; along = refl; fits = record { told = refl; leads = refl; fit = refl } };
}

pub do_tests_meet : DoTestsMeet
unfolding reached_within
do_tests_meet = record {
  both_value = record { source = refl; along = refl; fits = record { told = refl; leads = refl; fit = refl } };
  either_lets_go = record { source = refl; along = refl; fits = record { told = refl; leads = refl; fit = refl } };
  both_lets_go = record { source = refl; along = refl; fits = record { told = refl; leads = refl; fit = refl } };
  not_is = record { source = refl; along = refl; fits = record { told = refl; leads = refl; fit = refl } };
  truth_of_equality = record { source = refl; along = refl; fits = record { told = refl; leads = refl; fit = refl } };
  truth_of_pointer = record { source = refl; along = refl; fits = record { told = refl; leads = refl; fit = refl } };
}

pub do_choices_meet : DoChoicesMeet
unfolding reached_within
do_choices_meet = record {
  choice_is = record { source = refl; along = refl; fits = record { told = refl; leads = refl; fit = refl } };
  choice_lets_go = record { source = refl; along = refl; fits = record { told = refl; leads = refl; fit = refl } };
  void_choice = record { source = refl; along = refl; fits = record { told = refl; leads = refl; fit = refl } };
  dropped_choice = record { source = refl; along = refl; fits = record { told = refl; leads = refl; fit = refl } };
  dropped_expect = record { source = refl; along = refl; fits = record { told = refl; leads = refl; fit = refl } };
  comma_is = record { source = refl; along = refl; fits = record { told = refl; leads = refl; fit = refl } };
}

pub do_operators_meet : DoOperatorsMeet
unfolding reached_within
do_operators_meet = record {
  greater_is = record { source = refl; along = refl; fits = record { told = refl; leads = refl; fit = refl } };
  greater_or_equal = record { source = refl; along = refl; fits = record { told = refl; leads = refl; fit = refl } };
  minus_is = record { source = refl; along = refl; fits = record { told = refl; leads = refl; fit = refl } };
  flip_is = record { source = refl; along = refl; fits = record { told = refl; leads = refl; fit = refl } };
  plus_sign = record { source = refl; along = refl; fits = record { told = refl; leads = refl; fit = refl } };
  long_is = record { source = refl; along = refl; fits = record { told = refl; leads = refl; fit = refl } };
}

pub do_members_meet : DoMembersMeet
unfolding reached_within
do_members_meet = record {
  members = record { source = refl; along = refl; fits = record { told = refl; leads = refl; fit = refl } };
  inner_member = record { source = refl; along = refl; fits = record { told = refl; leads = refl; fit = refl } };
  struct_copy = record { source = refl; along = refl; fits = record { told = refl; leads = refl; fit = refl } };
  memset_fills = record { source = refl; along = refl; fits = record { told = refl; leads = refl; fit = refl } };
  memcpy_answers = record { source = refl; along = refl; fits = record { told = refl; leads = refl; fit = refl } };
}

pub do_calls_meet : DoCallsMeet
unfolding reached_within
do_calls_meet = record {
  expect_alone = record { source = refl; along = refl; fits = record { told = refl; leads = refl; fit = refl } };
  expect_within = record { source = refl; along = refl; fits = record { told = refl; leads = refl; fit = refl } };
  expect_is = record { source = refl; along = refl; fits = record { told = refl; leads = refl; fit = refl } };
  assume_holds = record { source = refl; along = refl; fits = record { told = refl; leads = refl; fit = refl } };
  input_is = record { source = refl; along = refl; fits = record { told = refl; leads = refl; fit = refl } };
  abort_in_arm = record { source = refl; along = refl; fits = record { told = refl; leads = refl; fit = refl } };
  assertion = record { source = refl; along = refl; fits = record { told = refl; leads = refl; fit = refl } };
}

pub do_loops_meet : DoLoopsMeet
unfolding reached_within
do_loops_meet = record {
  for_continues = record { source = refl; along = refl; fits = record { told = refl; leads = refl; fit = refl } };
  while_continues = record { source = refl; along = refl; fits = record { told = refl; leads = refl; fit = refl } };
  do_continues = record { source = refl; along = refl; fits = record { told = refl; leads = refl; fit = refl } };
  do_passes = record { source = refl; along = refl; fits = record { told = refl; leads = refl; fit = refl } };
  for_ever = record { source = refl; along = refl; fits = record { told = refl; leads = refl; fit = refl } };
  for_passes = record { source = refl; along = refl; fits = record { told = refl; leads = refl; fit = refl } };
}

pub do_jumps_meet : DoJumpsMeet
unfolding reached_within
do_jumps_meet = record {
  break_drops = record { source = refl; along = refl; fits = record { told = refl; leads = refl; fit = refl } };
  continue_drops = record { source = refl; along = refl; fits = record { told = refl; leads = refl; fit = refl } };
  break_behind_block = record { source = refl; along = refl; fits = record { told = refl; leads = refl; fit = refl } };
  break_leads_on = record { source = refl; along = refl; fits = record { told = refl; leads = refl; fit = refl } };
  break_ends_body = record { source = refl; along = refl; fits = record { told = refl; leads = refl; fit = refl } };
  never_reached = record { source = refl; along = refl; fits = record { told = refl; leads = refl; fit = refl } };
}

pub do_returns_meet : DoReturnsMeet
unfolding reached_within
do_returns_meet = record {
  return_drops = record { source = refl; along = refl; fits = record { told = refl; leads = refl; fit = refl } };
  void_returns = record { source = refl; along = refl; fits = record { told = refl; leads = refl; fit = refl } };
  returns_truth = record { source = refl; along = refl; fits = record { told = refl; leads = refl; fit = refl } };
  returns_truth_of = record { source = refl; along = refl; fits = record { told = refl; leads = refl; fit = refl } };
  either_arm = record { source = refl; along = refl; fits = record { told = refl; leads = refl; fit = refl } };
}

pub do_objects_meet : DoObjectsMeet
unfolding reached_within
do_objects_meet = record {
  malloc_null = record { source = refl; along = refl; fits = record { told = refl; leads = refl; fit = refl } };
  malloc_block = record { source = refl; along = refl; fits = record { told = refl; leads = refl; fit = refl } };
  braces_are = record { source = refl; along = refl; fits = record { told = refl; leads = refl; fit = refl } };
  member_set = record { source = refl; along = refl; fits = record { told = refl; leads = refl; fit = refl } };
}

pub do_statics_meet : DoStaticsMeet
unfolding reached_within
do_statics_meet = record {
  initial = refl;
  numbers_are = record { source = refl; along = refl; fits = record { told = refl; leads = refl; fit = refl } };
  truth_is = record { source = refl; along = refl; fits = record { told = refl; leads = refl; fit = refl } };
  later_stands = record { source = refl; along = refl; fits = record { told = refl; leads = refl; fit = refl } };
}
