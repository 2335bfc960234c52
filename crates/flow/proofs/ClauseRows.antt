-- The rows hold by computation.
use Rattle.std.proofs.Common.{refl, ◌≡◌, ℕ, List, [], ◌∷◌, None}
use Rattle.flow.specs.ClauseRows.{AreSizesTold, AreObjectsTold, IsStandingTold, AreExitsTold, edge, with_edges, with_variables, second}
use Rattle.flow.specs.declared.flow_graph.FlowEdge.{FlowEdge}
use Rattle.flow.specs.declared.instruction.Instr.TheVariants.{Return}
use Rattle.flow.specs.Valid.{HasReturn}

pub sizes_told : AreSizesTold
sizes_told = record {
  last_variable = refl;
  no_variable = refl;
  entered_variable = refl;
  no_entered_variable = refl;
  left_variable = refl;
  no_left_variable = refl;
  last_function = refl;
  no_function = refl;
  largest_byte = refl;
  over_a_byte = refl;
  largest_number = refl;
  number_of_three_bytes = refl;
  read_two_bytes = refl;
  read_three_bytes = refl;
  read_a_pointer = refl;
  read_half_a_pointer = refl;
  write_a_byte = refl;
  write_nothing = refl;
  compute_eight = refl;
  compute_sixteen = refl;
  convert_to_four = refl;
  convert_to_five = refl;
  input_of_a_byte = refl;
  input_of_nothing = refl;
  largest_allocation = refl;
  too_large_an_allocation = refl;
  largest_fill = refl;
  too_large_a_fill = refl;
  largest_copy = refl;
  too_large_a_copy = refl;
  largest_variable = refl;
  too_large_a_variable = refl;
}

pub objects_told : AreObjectsTold
objects_told = record {
  whole_static = refl;
  past_the_end = refl;
  last_byte = refl;
  number_over_its_size = refl;
  of_a_local = refl;
  an_address = refl;
  half_an_address = refl;
  address_of_a_local = refl;
  three_bytes_of_a_static = refl;
  parameter_of_four = refl;
  parameter_of_three = refl;
  static_parameter = refl;
  distinct = refl;
  twice = refl;
  ascending = refl;
  equal_neighbours = refl;
  one_argument = refl;
  no_argument = refl;
  two_arguments = refl;
  no_result_wanted = refl;
  no_result_there = refl;
  return_without = refl;
  return_with = refl;
  return_of_another = refl;
  return_beside_another = refl;
  return_leaves_one = refl;
  no_return = refl;
}

pub standing_told : IsStandingTold
standing_told = record {
  move_of_one_that_stands = refl;
  move_of_none = refl;
  read_at_an_address = refl;
  read_at_four_bytes = refl;
  write_of_its_size = refl;
  write_of_another_size = refl;
  shift_by_eight_bytes = refl;
  shift_by_four_bytes = refl;
  amount_of_another_size = refl;
  summand_of_another_size = refl;
  argument_of_its_size = refl;
  argument_of_another_size = refl;
  finish_of_both = refl;
  finish_of_none = refl;
  test_of_one_size = refl;
  test_of_two_sizes = refl;
  other_test_of_two_sizes = refl;
  enter_new = refl;
  enter_twice = refl;
  enter_one_that_stands = refl;
  enter_static = refl;
  leave_one_that_stands = refl;
  leave_twice = refl;
  leave_none = refl;
  behind_a_move = refl;
  behind_a_read = refl;
  behind_a_comparison = refl;
  behind_a_call = refl;
  behind_an_enter = refl;
  behind_a_leave = refl;
  a_close = refl;
  no_close = refl;
  a_call_of_main = refl;
  a_call_of_another = refl;
}

no_edge_out : HasReturn (with_edges []) second → ⊥
no_edge_out has =
    let none : List FlowEdge = [] in
    let e : none ≡ has.edge ∷ [] = has.only in cc

two_edges_out : HasReturn (with_edges (edge 2 0 (Return None) ∷ edge 2 1 (Return None) ∷ [])) second → ⊥
two_edges_out has =
    let e : edge 2 0 (Return None) ∷ edge 2 1 (Return None) ∷ [] ≡ has.edge ∷ [] = has.only in cc

a_variable_left : HasReturn (with_variables (2 ∷ [])) second → ⊥
a_variable_left has =
    let none : List ℕ = [] in
    let e : 2 ∷ [] ≡ none = has.variables in cc

pub exits_told : AreExitsTold
exits_told = record {
  one_return = record { edge = edge 2 0 (Return None); only = refl; returns = refl; variables = refl; ends = refl };
  no_variable_left = record { edge = edge 2 0 (Return None); only = refl; returns = refl; variables = refl; ends = refl };
  a_variable_left = a_variable_left;
  no_edge_out = no_edge_out;
  two_edges_out = two_edges_out;
}
