-- What holds of flow graphs, rule by rule: data that just meet it, and data that just miss it.
use Rattle.std.specs.Prelude.{◌≡◌, ℕ, ◌-◌, ◌^◌, true, false, List, [], ◌∷◌, pos, None, Some}
use Rattle.cbase.specs.declared.abi.Abi.TheVariants.{Lp64}
use Rattle.arithmetic.specs.declared.op.Op.TheVariants as op
use Rattle.flow.specs.declared.instruction.Instr.{Instr}
use Rattle.flow.specs.declared.instruction.Instr.TheVariants.{Number, Address, Move, Read, Write, ShiftBy, Compute, Convert, IfSame, IfDifferent, Allocate, Fill, Copy, Enter, Leave, Finish, Input, Call, Return, Close}
use Rattle.flow.specs.declared.flow_graph.Flow.{Flow}
use Rattle.flow.specs.declared.flow_graph.FlowEdge.{FlowEdge}
use Rattle.flow.specs.declared.flow_graph.FlowFunction.{FlowFunction}
use Rattle.flow.specs.declared.flow_graph.Initial.{Initial}
use Rattle.flow.specs.declared.flow_graph.InitialWord.{InitialWord}
use Rattle.flow.specs.declared.flow_graph.InitialWord.TheVariants as initial
use Rattle.flow.specs.declared.flow_graph.Standing.{Standing}
use Rattle.flow.specs.declared.flow_graph.Width.{Width}
use Rattle.flow.specs.Standing.{stands_after}
use Rattle.flow.specs.Valid.{is_object_size, names_what_is_there, has_sizes, are_distinct, ascend, reads_what_stands, tests_one_size, has_scope, calls_rightly, is_initial, is_parameter, returns_what_stands, is_close, is_call_of, HasReturn}

abbrev pub width : ℕ → ℕ → Width
width register size = record { register = register; size = size }

abbrev pub stand : List ℕ → List Width → Standing
stand variables registers = record { variables = variables; registers = registers }

-- a graph with a static variable of 8 bytes, and others of 4, 8 and 3. The first function has the variable of 4 bytes
-- as its parameter, and a result of 4 bytes; the second has neither.
abbrev pub graph : Flow
graph = record {
  points = 3;
  edges = [];
  functions = record { entry = 0; exit = 1; parameters = 1 ∷ [] } ∷ record { entry = 2; exit = 2; parameters = [] } ∷ [];
  variables = record { size = 8; fixed = true } ∷ record { size = 4; fixed = false } ∷ record { size = 8; fixed = false } ∷ record { size = 3; fixed = false } ∷ [];
  initial = [];
  heads = [];
  main = 1;
  stands = stand (1 ∷ []) [] ∷ stand [] (width 0 4 ∷ []) ∷ stand [] [] ∷ [];
  abi = Lp64;
  strict = false;
}

-- variable 1 stands, register 1 with 4 bytes and register 2 with 8
abbrev pub here : Standing
here = stand (1 ∷ []) (width 1 4 ∷ width 2 8 ∷ [])

abbrev pub scalar : ℕ → ℕ → ℕ → InitialWord → Initial
scalar variable from size word = record { variable = variable; at = from; size = size; word = word }

-- numbers that name what is there, and sizes
pub record AreSizesTold : Type 0 where
  pub last_variable : names_what_is_there graph (Address 0 3) ≡ true
  pub no_variable : names_what_is_there graph (Address 0 4) ≡ false
  pub entered_variable : names_what_is_there graph (Enter (1 ∷ 3 ∷ [])) ≡ true
  pub no_entered_variable : names_what_is_there graph (Enter (1 ∷ 4 ∷ [])) ≡ false
  pub left_variable : names_what_is_there graph (Leave (3 ∷ [])) ≡ true
  pub no_left_variable : names_what_is_there graph (Leave (4 ∷ [])) ≡ false
  pub last_function : names_what_is_there graph (Call 1 [] None) ≡ true
  pub no_function : names_what_is_there graph (Call 2 [] None) ≡ false
  pub largest_byte : has_sizes (Number 0 255 1) ≡ true
  pub over_a_byte : has_sizes (Number 0 256 1) ≡ false
  pub largest_number : has_sizes (Number 0 (2 ^ 64 - 1) 8) ≡ true
  pub number_of_three_bytes : has_sizes (Number 0 1 3) ≡ false
  pub read_two_bytes : has_sizes (Read 0 1 2 false) ≡ true
  pub read_three_bytes : has_sizes (Read 0 1 3 false) ≡ false
  pub read_a_pointer : has_sizes (Read 0 1 8 true) ≡ true
  pub read_half_a_pointer : has_sizes (Read 0 1 4 true) ≡ false
  pub write_a_byte : has_sizes (Write 0 1 1) ≡ true
  pub write_nothing : has_sizes (Write 0 1 0) ≡ false
  pub compute_eight : has_sizes (Compute 0 op.Add 1 2 8 true) ≡ true
  pub compute_sixteen : has_sizes (Compute 0 op.Add 1 2 16 true) ≡ false
  pub convert_to_four : has_sizes (Convert 0 1 4 true) ≡ true
  pub convert_to_five : has_sizes (Convert 0 1 5 true) ≡ false
  pub input_of_a_byte : has_sizes (Input 0 1 false true) ≡ true
  pub input_of_nothing : has_sizes (Input 0 0 false true) ≡ false
  pub largest_allocation : has_sizes (Allocate 0 65536 false) ≡ true
  pub too_large_an_allocation : has_sizes (Allocate 0 65537 false) ≡ false
  pub largest_fill : has_sizes (Fill 0 1 65536) ≡ true
  pub too_large_a_fill : has_sizes (Fill 0 1 65537) ≡ false
  pub largest_copy : has_sizes (Copy 0 1 65536 true) ≡ true
  pub too_large_a_copy : has_sizes (Copy 0 1 65537 true) ≡ false
  pub largest_variable : is_object_size 65536 ≡ true
  pub too_large_a_variable : is_object_size 65537 ≡ false

-- what static variables hold, parameters, and calls
pub record AreObjectsTold : Type 0 where
  pub whole_static : is_initial graph (scalar 0 0 8 (initial.Number (2 ^ 64 - 1))) ≡ true
  pub past_the_end : is_initial graph (scalar 0 1 8 (initial.Number 0)) ≡ false
  pub last_byte : is_initial graph (scalar 0 7 1 (initial.Number 255)) ≡ true
  pub number_over_its_size : is_initial graph (scalar 0 7 1 (initial.Number 256)) ≡ false
  pub of_a_local : is_initial graph (scalar 1 0 4 (initial.Number 0)) ≡ false
  pub an_address : is_initial graph (scalar 0 0 8 (initial.Address 0 (pos 9))) ≡ true
  pub half_an_address : is_initial graph (scalar 0 0 4 (initial.Address 0 (pos 0))) ≡ false
  pub address_of_a_local : is_initial graph (scalar 0 0 8 (initial.Address 1 (pos 0))) ≡ false
  pub three_bytes_of_a_static : is_initial graph (scalar 0 0 3 (initial.Number 0)) ≡ false
  pub parameter_of_four : is_parameter graph 1 ≡ true
  pub parameter_of_three : is_parameter graph 3 ≡ false
  pub static_parameter : is_parameter graph 0 ≡ false
  pub distinct : are_distinct (1 ∷ 2 ∷ 3 ∷ []) ≡ true
  pub twice : are_distinct (1 ∷ 2 ∷ 1 ∷ []) ≡ false
  pub ascending : ascend (1 ∷ 2 ∷ 5 ∷ []) ≡ true
  pub equal_neighbours : ascend (1 ∷ 2 ∷ 2 ∷ []) ≡ false
  pub one_argument : calls_rightly graph (Call 0 (1 ∷ []) (Some 3)) ≡ true
  pub no_argument : calls_rightly graph (Call 0 [] (Some 3)) ≡ false
  pub two_arguments : calls_rightly graph (Call 0 (1 ∷ 2 ∷ []) (Some 3)) ≡ false
  pub no_result_wanted : calls_rightly graph (Call 1 [] None) ≡ true
  pub no_result_there : calls_rightly graph (Call 1 [] (Some 3)) ≡ false
  pub return_without : returns_what_stands (Return None) [] ≡ true
  pub return_with : returns_what_stands (Return (Some 0)) (width 0 4 ∷ []) ≡ true
  pub return_of_another : returns_what_stands (Return (Some 1)) (width 0 4 ∷ []) ≡ false
  pub return_beside_another : returns_what_stands (Return (Some 0)) (width 0 4 ∷ width 1 4 ∷ []) ≡ false
  pub return_leaves_one : returns_what_stands (Return None) (width 0 4 ∷ []) ≡ false
  pub no_return : returns_what_stands Close [] ≡ false

-- what instructions read, and what stands behind them
pub record IsStandingTold : Type 0 where
  pub move_of_one_that_stands : reads_what_stands graph here (Move 3 1) ≡ true
  pub move_of_none : reads_what_stands graph here (Move 3 4) ≡ false
  pub read_at_an_address : reads_what_stands graph here (Read 3 2 4 false) ≡ true
  pub read_at_four_bytes : reads_what_stands graph here (Read 3 1 4 false) ≡ false
  pub write_of_its_size : reads_what_stands graph here (Write 2 1 4) ≡ true
  pub write_of_another_size : reads_what_stands graph here (Write 2 1 8) ≡ false
  pub shift_by_eight_bytes : reads_what_stands graph here (ShiftBy 3 2 2 (pos 4)) ≡ true
  pub shift_by_four_bytes : reads_what_stands graph here (ShiftBy 3 2 1 (pos 4)) ≡ false
  -- the amount of a shift may have another size, the right side of a sum may not
  pub amount_of_another_size : reads_what_stands graph here (Compute 3 op.Left 1 2 4 true) ≡ true
  pub summand_of_another_size : reads_what_stands graph here (Compute 3 op.Add 1 2 4 true) ≡ false
  pub argument_of_its_size : reads_what_stands graph here (Call 0 (1 ∷ []) None) ≡ true
  pub argument_of_another_size : reads_what_stands graph here (Call 0 (2 ∷ []) None) ≡ false
  pub finish_of_both : reads_what_stands graph here (Finish (1 ∷ 2 ∷ [])) ≡ true
  pub finish_of_none : reads_what_stands graph here (Finish (1 ∷ 3 ∷ [])) ≡ false
  pub test_of_one_size : tests_one_size here (IfSame 1 1) ≡ true
  pub test_of_two_sizes : tests_one_size here (IfSame 1 2) ≡ false
  pub other_test_of_two_sizes : tests_one_size here (IfDifferent 1 2) ≡ false
  pub enter_new : has_scope graph here (Enter (2 ∷ 3 ∷ [])) ≡ true
  pub enter_twice : has_scope graph here (Enter (2 ∷ 2 ∷ [])) ≡ false
  pub enter_one_that_stands : has_scope graph here (Enter (1 ∷ [])) ≡ false
  pub enter_static : has_scope graph here (Enter (0 ∷ [])) ≡ false
  pub leave_one_that_stands : has_scope graph here (Leave (1 ∷ [])) ≡ true
  pub leave_twice : has_scope graph here (Leave (1 ∷ 1 ∷ [])) ≡ false
  pub leave_none : has_scope graph here (Leave (2 ∷ [])) ≡ false
  pub behind_a_move : stands_after graph (Move 3 1) here ≡ stand (1 ∷ []) (width 1 4 ∷ width 2 8 ∷ width 3 4 ∷ [])
  pub behind_a_read : stands_after graph (Read 0 2 4 false) here ≡ stand (1 ∷ []) (width 0 4 ∷ width 1 4 ∷ [])
  pub behind_a_comparison : stands_after graph (Compute 1 op.Less 1 2 8 true) here ≡ stand (1 ∷ []) (width 1 4 ∷ [])
  pub behind_a_call : stands_after graph (Call 0 (1 ∷ []) (Some 5)) here ≡ stand (1 ∷ []) (width 2 8 ∷ width 5 4 ∷ [])
  pub behind_an_enter : stands_after graph (Enter (3 ∷ 2 ∷ [])) here ≡ stand (1 ∷ 2 ∷ 3 ∷ []) (width 1 4 ∷ width 2 8 ∷ [])
  pub behind_a_leave : stands_after graph (Leave (1 ∷ [])) here ≡ stand [] (width 1 4 ∷ width 2 8 ∷ [])
  pub a_close : is_close Close ≡ true
  pub no_close : is_close (Return None) ≡ false
  pub a_call_of_main : is_call_of 1 (Call 1 [] None) ≡ true
  pub a_call_of_another : is_call_of 1 (Call 0 [] None) ≡ false

-- an edge, and the second function above, whose exit is point 2, in a graph with such edges
abbrev pub edge : ℕ → ℕ → Instr → FlowEdge
edge from to instr = record { from = from; to = to; instr = instr; place = record { file = 0; line = 1; column = 1; at = 0 } }

abbrev pub second : FlowFunction
second = record { entry = 2; exit = 2; parameters = [] }

abbrev pub with_edges : List FlowEdge → Flow
with_edges edges = record graph { edges = edges }

-- the same graph with one return out of that exit, at which these variables stand
abbrev pub with_variables : List ℕ → Flow
with_variables variables = record (with_edges (edge 2 0 (Return None) ∷ [])) {
  stands = stand (1 ∷ []) [] ∷ stand [] (width 0 4 ∷ []) ∷ stand variables [] ∷ [];
}

-- returns out of an exit
pub record AreExitsTold : Type 0 where
  pub one_return : HasReturn (with_edges (edge 2 0 (Return None) ∷ [])) second
  pub no_edge_out : HasReturn (with_edges []) second → ⊥
  pub no_variable_left : HasReturn (with_variables []) second
  pub a_variable_left : HasReturn (with_variables (2 ∷ [])) second → ⊥
  pub two_edges_out : HasReturn (with_edges (edge 2 0 (Return None) ∷ edge 2 1 (Return None) ∷ [])) second → ⊥
