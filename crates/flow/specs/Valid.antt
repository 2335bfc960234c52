-- What holds of each flow graph.
use Rattle.std.specs.Prelude.{◌≡◌, ◌≢◌, ℕ, ◌+◌, ◌^◌, ◌<◌, ◌≤◌, Bool, true, false, not, ◌&&◌, ◌||◌, List, [], ◌∷◌, length, map, filter, nat_eq, nat_le, nat_lt, Option, None, Some, slice_get, IsTrue, All, AllPairs, Contains, ◌⊎◌}
use Rattle.std.specs.List.{list_all, list_any}
use Rattle.std.specs.Option.{option_map_or}
use Rattle.flow.specs.declared.instruction.Instr.{Instr}
use Rattle.flow.specs.declared.instruction.Instr.TheVariants.{Number, Address, Read, Write, Compute, Convert, IfSame, IfDifferent, Allocate, Fill, Copy, Enter, Leave, Input, Call, Return, Close}
use Rattle.flow.specs.declared.flow_graph.Flow.{Flow}
use Rattle.flow.specs.declared.flow_graph.FlowEdge.{FlowEdge}
use Rattle.flow.specs.declared.flow_graph.FlowFunction.{FlowFunction}
use Rattle.flow.specs.declared.flow_graph.Initial.{Initial}
use Rattle.flow.specs.declared.flow_graph.InitialWord.{InitialWord}
use Rattle.flow.specs.declared.flow_graph.InitialWord.TheVariants as initial
use Rattle.flow.specs.declared.flow_graph.Standing.{Standing}
use Rattle.flow.specs.declared.flow_graph.Width.{Width}
use Rattle.flow.specs.Walks.{is_return}
use Rattle.flow.specs.InRange.{IsInRange}
use Rattle.flow.specs.Holding.{size_of}
use Rattle.flow.specs.Machine.{size_in}
use Rattle.flow.specs.Runs.{parameters_of}
use Rattle.flow.specs.Standing.{asked_by, stands_as_asked, stands_at, stands_after, result_size}

-- whether a size is that of a scalar: 1, 2, 4 or 8 bytes
abbrev pub is_scalar_size : ℕ → Bool
is_scalar_size size = nat_eq size 1 || (nat_eq size 2 || (nat_eq size 4 || nat_eq size 8))

-- whether a size is at most that of the largest object
abbrev pub is_object_size : ℕ → Bool
is_object_size size = nat_le size 65536

-- whether a number fits a size
abbrev pub fits_size : ℕ → ℕ → Bool
fits_size size number = nat_lt number (256 ^ size)

-- whether a number is that of a static variable, or of one that is not static
abbrev pub is_fixed : Flow → ℕ → Bool
is_fixed flow variable = option_map_or (λ found. found.fixed) (slice_get flow.variables variable) false

abbrev pub is_local : Flow → ℕ → Bool
is_local flow variable = option_map_or (λ found. not found.fixed) (slice_get flow.variables variable) false

-- whether the variables and the function that an instruction names are there
abbrev pub names_what_is_there : Flow → Instr → Bool
names_what_is_there flow (Address into variable) = nat_lt variable (length flow.variables)
names_what_is_there flow (Enter variables) = list_all (λ variable. nat_lt variable (length flow.variables)) variables
names_what_is_there flow (Leave variables) = list_all (λ variable. nat_lt variable (length flow.variables)) variables
names_what_is_there flow (Call function arguments into) = nat_lt function (length flow.functions)
names_what_is_there flow instr = true

-- whether the sizes of an instruction are such: of a scalar, 8 where a pointer is read, at most 65,536 for an
-- allocation and a length; and whether its number fits its size
abbrev pub has_sizes : Instr → Bool
has_sizes (Number into number size) = is_scalar_size size && fits_size size number
has_sizes (Read into at size pointer) = is_scalar_size size && (not pointer || nat_eq size 8)
has_sizes (Write at from size) = is_scalar_size size
has_sizes (Compute into op one other size signed) = is_scalar_size size
has_sizes (Convert into from size signed) = is_scalar_size size
has_sizes (Allocate into bytes zeroed) = is_object_size bytes
has_sizes (Fill at from length) = is_object_size length
has_sizes (Copy to from length disjoint) = is_object_size length
has_sizes (Input into size signed truth) = is_scalar_size size
has_sizes instr = true

-- whether numbers are distinct
abbrev pub are_distinct : List ℕ → Bool
are_distinct [] = true
are_distinct (first ∷ rest) = not (list_any (nat_eq first) rest) && are_distinct rest

-- whether numbers ascend
abbrev pub ascend : List ℕ → Bool
ascend [] = true
ascend (first ∷ []) = true
ascend (first ∷ second ∷ rest) = nat_lt first second && ascend (second ∷ rest)

-- whether an instruction reads only registers that stand, in the sizes that it asks for
abbrev pub reads_what_stands : Flow → Standing → Instr → Bool
reads_what_stands flow standing instr = list_all (stands_as_asked standing.registers) (asked_by flow instr)

-- whether the two registers of a test have one size
abbrev pub same_size : Option ℕ → Option ℕ → Bool
same_size (Some one) (Some other) = nat_eq one other
same_size None other = false
same_size (Some one) None = false

abbrev pub tests_one_size : Standing → Instr → Bool
tests_one_size standing (IfSame one other) = same_size (size_of standing.registers one) (size_of standing.registers other)
tests_one_size standing (IfDifferent one other) = same_size (size_of standing.registers one) (size_of standing.registers other)
tests_one_size standing instr = true

-- whether a scope's variables are distinct, and are not static and do not stand where it is entered, or stand where
-- it is left
abbrev pub has_scope : Flow → Standing → Instr → Bool
has_scope flow standing (Enter variables) =
    are_distinct variables && list_all (λ variable. is_local flow variable && not (list_any (nat_eq variable) standing.variables)) variables
has_scope flow standing (Leave variables) =
    are_distinct variables && list_all (λ variable. list_any (nat_eq variable) standing.variables) variables
has_scope flow standing instr = true

-- whether a call has one argument for each parameter, and takes a result only of a function that has one
abbrev pub takes_result : Option ℕ → Option ℕ → Bool
takes_result None size = true
takes_result (Some into) None = false
takes_result (Some into) (Some size) = true

abbrev pub calls_rightly : Flow → Instr → Bool
calls_rightly flow (Call function arguments into) =
    nat_eq (length arguments) (length (parameters_of flow function)) && takes_result into (result_size flow function)
calls_rightly flow instr = true

-- a scalar of a static variable lies in its bytes, and a number that it holds fits its size; an address has 8 bytes
-- and is of a static variable
abbrev pub is_initial_word : Flow → ℕ → InitialWord → Bool
is_initial_word flow size (initial.Number number) = fits_size size number
is_initial_word flow size (initial.Address variable offset) = nat_eq size 8 && is_fixed flow variable

abbrev pub is_initial : Flow → Initial → Bool
is_initial flow scalar =
    is_fixed flow scalar.variable && (is_scalar_size scalar.size && (nat_le (scalar.at + scalar.size) (size_in flow scalar.variable)
    && is_initial_word flow scalar.size scalar.word))

-- two scalars of one static variable have equal ranges, or ranges that share no byte
pub record AreApart (one other : Initial) : Type 0 where
  pub apart : one.variable ≡ other.variable →
      ((one.at ≡ other.at) × (one.size ≡ other.size)) ⊎ ((one.at + one.size ≤ other.at) ⊎ (other.at + other.size ≤ one.at))

-- a parameter is a variable that is not static and has the size of a scalar
abbrev pub is_parameter : Flow → ℕ → Bool
is_parameter flow variable = is_local flow variable && is_scalar_size (size_in flow variable)

-- the edges out of a point
abbrev pub edges_out : Flow → ℕ → List FlowEdge
edges_out flow point = filter (λ edge. nat_eq edge.from point) flow.edges

-- the register of a return stands alone, if it has one
abbrev pub stands_alone : Option ℕ → List Width → Bool
stands_alone None [] = true
stands_alone (Some from) (only ∷ []) = nat_eq only.register from
stands_alone from widths = false

abbrev pub returns_what_stands : Instr → List Width → Bool
returns_what_stands (Return from) widths = stands_alone from widths
returns_what_stands instr widths = false

-- the one edge out of a function's exit is its return, which leads to a point without edges out; at the exit only the
-- register of the return stands, and no variable
pub record HasReturn (flow : Flow) (function : FlowFunction) : Type 0 where
  pub edge : FlowEdge
  pub only : edges_out flow function.exit ≡ edge ∷ []
  pub returns : IsTrue (returns_what_stands edge.instr (stands_at flow function.exit).registers)
  pub variables : (stands_at flow function.exit).variables ≡ []
  pub ends : edges_out flow edge.to ≡ []

-- a point is reached along edges from another
pub data Reached (flow : Flow) (from : ℕ) : ℕ → Type 0 where
  Here : Reached flow from from
  Along : (point : ℕ) (edge : FlowEdge) → Reached flow from point → Contains flow.edges edge → edge.from ≡ point → Reached flow from edge.to

-- no point is reached from the entries of two functions, and no function's exit from the entry of another
pub record AreSeparate (flow : Flow) : Type 0 where
  pub points : (one other point : ℕ) (function second : FlowFunction) → slice_get flow.functions one ≡ Some function →
      slice_get flow.functions other ≡ Some second → Reached flow function.entry point → Reached flow second.entry point → one ≡ other
  pub exits : (one other : ℕ) (function second : FlowFunction) → slice_get flow.functions one ≡ Some function →
      slice_get flow.functions other ≡ Some second → Reached flow function.entry second.exit → one ≡ other

-- whether an instruction is a look for blocks that were never freed, or a call of a function
abbrev pub is_close : Instr → Bool
is_close Close = true
is_close instr = false

abbrev pub is_call_of : ℕ → Instr → Bool
is_call_of called (Call function arguments into) = nat_eq function called
is_call_of called instr = false

-- the exit of main
abbrev pub exit_of : Flow → ℕ → Option ℕ
exit_of flow function = option_map_or (λ found. Some found.exit) (slice_get flow.functions function) None

-- what holds of a flow graph
pub record IsFlow (flow : Flow) : Type 0 where
  -- all numbers are in range
  pub in_range : IsInRange flow
  pub names : All (λ edge. IsTrue (names_what_is_there flow edge.instr)) flow.edges
  pub heads : All (λ head. head < flow.points) flow.heads
  -- what stands is told for each point: variables that are not static, and registers of scalar sizes, ascending
  pub each_point : length flow.stands ≡ flow.points
  pub standing_variables : All (λ standing. IsTrue (ascend standing.variables && list_all (is_local flow) standing.variables)) flow.stands
  pub standing_registers : All (λ standing. IsTrue (ascend (map (λ width. width.register) standing.registers)
      && list_all (λ width. is_scalar_size width.size) standing.registers)) flow.stands
  -- sizes of variables, and of instructions
  pub variable_sizes : All (λ variable. IsTrue (is_object_size variable.size)) flow.variables
  pub sizes : All (λ edge. IsTrue (has_sizes edge.instr)) flow.edges
  -- what static variables hold at the start
  pub initials : All (λ scalar. IsTrue (is_initial flow scalar)) flow.initial
  pub initials_apart : AllPairs AreApart flow.initial
  -- functions and their parameters
  pub parameters : All (λ function. IsTrue (are_distinct function.parameters && list_all (is_parameter flow) function.parameters)) flow.functions
  pub calls : All (λ edge. IsTrue (calls_rightly flow edge.instr)) flow.edges
  -- what an edge reads stands, and what stands behind it stands at its end
  pub reads : All (λ edge. IsTrue (reads_what_stands flow (stands_at flow edge.from) edge.instr)) flow.edges
  pub tests : All (λ edge. IsTrue (tests_one_size (stands_at flow edge.from) edge.instr)) flow.edges
  pub scopes : All (λ edge. IsTrue (has_scope flow (stands_at flow edge.from) edge.instr)) flow.edges
  pub leads : All (λ edge. stands_after flow edge.instr (stands_at flow edge.from) ≡ stands_at flow edge.to) flow.edges
  -- at an entry the parameters stand and no register, and no edge leads there
  pub entry_variables : All (λ function. (variable : ℕ) →
      (Contains (stands_at flow function.entry).variables variable → Contains function.parameters variable)
      × (Contains function.parameters variable → Contains (stands_at flow function.entry).variables variable)) flow.functions
  pub entry_registers : All (λ function. (stands_at flow function.entry).registers ≡ []) flow.functions
  pub entries : All (λ function. All (λ edge. edge.to ≢ function.entry) flow.edges) flow.functions
  -- returns
  pub exits : All (HasReturn flow) flow.functions
  pub returns : All (λ edge. IsTrue (is_return edge.instr) → Contains (map (λ function. function.exit) flow.functions) edge.from) flow.edges
  pub separate : AreSeparate flow
  -- main closes at its exit alone, and is not called where it closes
  pub closes : All (λ edge. IsTrue (is_close edge.instr) → exit_of flow flow.main ≡ Some edge.to) flow.edges
  pub closes_once : All (λ edge. IsTrue (is_close edge.instr) → All (λ other. is_call_of flow.main other.instr ≡ false) flow.edges) flow.edges
