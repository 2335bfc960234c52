-- The worked programs hold by computation.
use Rattle.std.proofs.Common.{refl}
use Rattle.bytes_core.specs.Loss.{reached_within}
use Rattle.lowering.specs.Rows.{AreGraphs, DoExpressionsRun, DoStatementsRun, DoCallsRun}

pub are_graphs : AreGraphs
are_graphs = record {
  loops_is = record { told = refl; leads = refl; fit = refl };
  stored_as = record { told = refl; leads = refl; fit = refl };
  left_first = record { told = refl; leads = refl; fit = refl };
  enumerator_is = record { told = refl; leads = refl; fit = refl };
  comma_lets_go = record { told = refl; leads = refl; fit = refl };
  equality_holds = record { told = refl; leads = refl; fit = refl };
  inner_value_ends = record { told = refl; leads = refl; fit = refl };
  inner_value_is_kept = record { told = refl; leads = refl; fit = refl };
  calloc_is_zero = record { told = refl; leads = refl; fit = refl };
  at_end_of_block = record { told = refl; leads = refl; fit = refl };
  object_dies = record { told = refl; leads = refl; fit = refl };
  braces_fill = record { told = refl; leads = refl; fit = refl };
  do_runs_first = record { told = refl; leads = refl; fit = refl };
  for_goes_on = record { told = refl; leads = refl; fit = refl };
  break_leaves_for = record { told = refl; leads = refl; fit = refl };
  break_in_condition = record { told = refl; leads = refl; fit = refl };
  break_looks_at_nothing = record { told = refl; leads = refl; fit = refl };
  break_out_of_inner_block = record { told = refl; leads = refl; fit = refl };
  return_leaves_all = record { told = refl; leads = refl; fit = refl };
  main_answers = record { told = refl; leads = refl; fit = refl };
  never_freed = record { told = refl; leads = refl; fit = refl };
  argument_comes_in = record { told = refl; leads = refl; fit = refl };
  argument_is_converted = record { told = refl; leads = refl; fit = refl };
  left_argument_first = record { told = refl; leads = refl; fit = refl };
  then_parameters = record { told = refl; leads = refl; fit = refl };
  then_body = record { told = refl; leads = refl; fit = refl };
  nameless = record { told = refl; leads = refl; fit = refl };
  recursion = record { told = refl; leads = refl; fit = refl };
  own_objects = record { told = refl; leads = refl; fit = refl };
  callers_object_lives = record { told = refl; leads = refl; fit = refl };
  own_object_dies = record { told = refl; leads = refl; fit = refl };
  callers_are_roots = record { told = refl; leads = refl; fit = refl };
  held_operands_are_roots = record { told = refl; leads = refl; fit = refl };
  returned_value_is_held = record { told = refl; leads = refl; fit = refl };
  lost_at_return = record { told = refl; leads = refl; fit = refl };
  lost_at_end = record { told = refl; leads = refl; fit = refl };
  result_is_converted = record { told = refl; leads = refl; fit = refl };
  end_is_input = record { told = refl; leads = refl; fit = refl };
  end_asks = record { told = refl; leads = refl; fit = refl };
  end_of_pointer = record { told = refl; leads = refl; fit = refl };
  end_of_truth = record { told = refl; leads = refl; fit = refl };
  main_is_called = record { told = refl; leads = refl; fit = refl };
}

pub do_expressions_run : DoExpressionsRun
unfolding reached_within
do_expressions_run = record {
  stored_as = refl;
  left_first = refl;
  enumerator_is = refl;
  comma_lets_go = refl;
  equality_holds = refl;
  inner_value_ends = refl;
  inner_value_is_kept = refl;
  calloc_is_zero = refl;
}

pub do_statements_run : DoStatementsRun
unfolding reached_within
do_statements_run = record {
  at_end_of_block = refl;
  object_dies = refl;
  braces_fill = refl;
  do_runs_first = refl;
  for_goes_on = refl;
  break_leaves_for = refl;
  break_in_condition = refl;
  break_looks_at_nothing = refl;
  break_out_of_inner_block = refl;
  return_leaves_all = refl;
  main_answers = refl;
  never_freed = refl;
}

pub do_calls_run : DoCallsRun
unfolding reached_within
do_calls_run = record {
  argument_comes_in = refl;
  argument_is_converted = refl;
  left_argument_first = refl;
  then_parameters = refl;
  then_body = refl;
  nameless = refl;
  recursion = refl;
  own_objects = refl;
  callers_object_lives = refl;
  own_object_dies = refl;
  callers_are_roots = refl;
  held_operands_are_roots = refl;
  returned_value_is_held = refl;
  lost_at_return = refl;
  lost_at_end = refl;
  result_is_converted = refl;
  end_is_input = refl;
  end_asks = refl;
  end_of_pointer = refl;
  end_of_truth = refl;
  main_is_called = refl;
}
