-- The rules of a flow graph that are told of one edge, one point, one function or one scalar alone, put together.
use Rattle.std.specs.Prelude.{ℕ, ◌+◌, Bool, true, ◌&&◌, ◌||◌, List, [], ◌∷◌, length, map, nat_eq, nat_lt, nat_le, not}
use Rattle.std.specs.List.{list_all, list_any}
use Rattle.flow.specs.declared.flow_graph.Flow.{Flow}
use Rattle.flow.specs.declared.flow_graph.FlowEdge.{FlowEdge}
use Rattle.flow.specs.declared.flow_graph.FlowFunction.{FlowFunction}
use Rattle.flow.specs.declared.flow_graph.Initial.{Initial}
use Rattle.flow.specs.declared.flow_graph.Standing.{Standing}
use Rattle.flow.specs.Standing.{stands_at}
use Rattle.flow.specs.Valid.{is_scalar_size, is_object_size, is_initial, is_close, is_call_of, is_local, is_parameter, names_what_is_there, has_sizes, are_distinct, ascend, calls_rightly, reads_what_stands, tests_one_size, has_scope}

-- what is told of an edge and of what stands where it begins
abbrev pub is_right_edge : Flow → FlowEdge → Bool
is_right_edge flow edge =
    names_what_is_there flow edge.instr && (has_sizes edge.instr && (calls_rightly flow edge.instr
    && (reads_what_stands flow (stands_at flow edge.from) edge.instr && (tests_one_size (stands_at flow edge.from) edge.instr
    && has_scope flow (stands_at flow edge.from) edge.instr))))

-- what is told of what stands at a point
abbrev pub has_right_variables : Flow → Standing → Bool
has_right_variables flow standing = ascend standing.variables && list_all (is_local flow) standing.variables

abbrev pub has_right_registers : Standing → Bool
has_right_registers standing =
    ascend (map (λ width. width.register) standing.registers) && list_all (λ width. is_scalar_size width.size) standing.registers

abbrev pub is_right_standing : Flow → Standing → Bool
is_right_standing flow standing = has_right_variables flow standing && has_right_registers standing

-- whether each of these numbers is among those
abbrev pub are_among : List ℕ → List ℕ → Bool
are_among those numbers = list_all (λ number. list_any (nat_eq number) those) numbers

-- what is told of a function's parameters and its entry
abbrev pub has_right_parameters : Flow → FlowFunction → Bool
has_right_parameters flow function = are_distinct function.parameters && list_all (is_parameter flow) function.parameters

abbrev pub has_right_entry : Flow → FlowFunction → Bool
has_right_entry flow function =
    are_among function.parameters (stands_at flow function.entry).variables && (are_among (stands_at flow function.entry).variables function.parameters
    && nat_eq (length (stands_at flow function.entry).registers) 0)

abbrev pub is_right_function : Flow → FlowFunction → Bool
is_right_function flow function = has_right_parameters flow function && has_right_entry flow function

-- whether two scalars have one range
abbrev pub have_one_range : Initial → Initial → Bool
have_one_range one other = nat_eq one.at other.at && nat_eq one.size other.size

-- whether two scalars are apart
abbrev pub is_apart : Initial → Initial → Bool
is_apart one other =
    not (nat_eq one.variable other.variable) || (have_one_range one other
    || (nat_le (one.at + one.size) other.at || nat_le (other.at + other.size) one.at))

-- whether each two scalars of a list are apart
abbrev pub are_apart : List Initial → Bool
are_apart [] = true
are_apart (first ∷ rest) = list_all (is_apart first) rest && are_apart rest

-- whether a scalar is listed before another in the order of variables and of bytes
abbrev pub comes_before : Initial → Initial → Bool
comes_before one other =
    nat_lt one.variable other.variable || (nat_eq one.variable other.variable && (have_one_range one other || nat_le (one.at + one.size) other.at))

-- whether each scalar is listed before the one behind it
abbrev pub are_in_order : List Initial → Bool
are_in_order [] = true
are_in_order (first ∷ []) = true
are_in_order (first ∷ second ∷ rest) = comes_before first second && are_in_order (second ∷ rest)

-- whether main is not called, or no edge looks for blocks that were never freed
abbrev pub closes_once : Flow → Bool
closes_once flow =
    not (list_any (λ edge. is_close edge.instr) flow.edges) || not (list_any (λ edge. is_call_of flow.main edge.instr) flow.edges)

-- all that is told of one point, function, scalar or edge alone
abbrev pub is_right_alone : Flow → Bool
is_right_alone flow =
    list_all (λ head. nat_lt head flow.points) flow.heads && (nat_eq (length flow.stands) flow.points
    && (list_all (is_right_standing flow) flow.stands && (list_all (λ variable. is_object_size variable.size) flow.variables
    && (list_all (is_initial flow) flow.initial && (are_apart flow.initial
    && (list_all (is_right_function flow) flow.functions && (list_all (is_right_edge flow) flow.edges && closes_once flow)))))))
