-- The worked examples hold by computation.
use Rattle.std.proofs.Common.{refl}
use Rattle.bytes_core.specs.Loss.{reached_within}
use Rattle.c_machine.specs.Examples.{AreExpressions, AreStatements, AreCalls, AreFound}

pub are_expressions : AreExpressions
unfolding reached_within
are_expressions = record {
  stored_as = refl;
  left_first = refl;
  enumerator_is = refl;
  comma_lets_go = refl;
  equality_holds = refl;
  inner_value_ends = refl;
  inner_value_is_kept = refl;
  calloc_is_zero = refl;
  truth_stays = refl;
  int_is_true = refl;
  number_is_address = refl;
  number_is_address_on_the_left = refl;
}

pub are_statements : AreStatements
unfolding reached_within
are_statements = record {
  at_end_of_block = refl;
  object_dies = refl;
  braces_fill = refl;
  do_runs_first = refl;
  for_goes_on = refl;
  break_leaves_for = refl;
  break_in_condition = refl;
  break_looks_at_nothing = refl;
  break_out_of_inner_block = refl;
  return_leaves_all = refl;
  main_answers = refl;
  never_freed = refl;
}

pub are_calls : AreCalls
unfolding reached_within
are_calls = record {
  argument_comes_in = refl;
  argument_is_converted = refl;
  left_argument_first = refl;
  then_parameters = refl;
  then_body = refl;
  nameless = refl;
  recursion = refl;
  own_objects = refl;
  callers_object_lives = refl;
  own_object_dies = refl;
  callers_are_roots = refl;
  held_operands_are_roots = refl;
  returned_value_is_held = refl;
  lost_at_return = refl;
  lost_at_end = refl;
  result_is_converted = refl;
  end_is_input = refl;
  end_asks = refl;
  end_of_pointer = refl;
  end_of_truth = refl;
  main_is_called = refl;
}

pub are_found : AreFound
are_found = record {
  in_order = λ t zeroed. refl;
  static_is_made_once = λ t token zeroed. refl;
  by_name = λ one two close. refl;
  built_in_stays = λ p name result params defined. refl;
}
