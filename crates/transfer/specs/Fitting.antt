-- When a graph is one of states at a point of a flow graph.
use Rattle.std.specs.Prelude.{◌≡◌, ℕ, Bool, true, ◌||◌, List, [], nat_eq, Option, Some, option_map, is_some, slice_get, IsTrue, All}
use Rattle.std.specs.List.{list_any}
use Rattle.std.specs.Option.{option_and_then}
use Rattle.graph.specs.declared.object.Object.{Object}
use Rattle.graph.specs.declared.parts.Parts.{Parts}
use Rattle.graph.specs.Maps.{object_at, value_at, storage_of, held_by}
use Rattle.graph.specs.Sizes.{value_size}
use Rattle.flow.specs.declared.flow_graph.Flow.{Flow}
use Rattle.flow.specs.declared.flow_graph.Standing.{Standing}
use Rattle.flow.specs.declared.instruction.Instr.{Instr}
use Rattle.flow.specs.Holding.{size_of}
use Rattle.flow.specs.Machine.{size_in}
use Rattle.flow.specs.Standing.{stands_at}
use Rattle.flow.specs.Valid.{is_fixed, is_object_size, has_sizes, has_scope, reads_what_stands, tests_one_size}
use Rattle.settle.specs.Settled.{name_no_segment}
use Rattle.transfer.specs.Through.{goes_through}

-- the size of what a register holds
abbrev pub held_size : Parts → ℕ → Option ℕ
held_size parts register = option_and_then (λ key. option_map value_size (value_at parts.values key)) (held_by parts.registers register)

-- a variable is there at a point: it is a static one, or it stands there
abbrev pub is_there : Flow → ℕ → ℕ → Bool
is_there flow point variable = is_fixed flow variable || list_any (nat_eq variable) (stands_at flow point).variables

-- a graph names exactly the static variables and those that stand at a point, holds exactly the registers that stand there, each value in its
-- size, and shares no word with surroundings
pub record FitsAt (flow : Flow) (point : ℕ) (parts : Parts) : Type 0 where
  pub variables : (variable : ℕ) → is_some (storage_of parts.variables variable) ≡ is_there flow point variable
  pub registers : (register : ℕ) → held_size parts register ≡ size_of (stands_at flow point).registers register
  pub ports : parts.ports ≡ []

-- so does each of these graphs, at a point or where this stands
pub record FitAt (flow : Flow) (point : ℕ) (graphs : List Parts) : Type 0 where
  pub each : (place : ℕ) (parts : Parts) → slice_get graphs place ≡ Some parts → FitsAt flow point parts

pub record FitsWith (flow : Flow) (standing : Standing) (parts : Parts) : Type 0 where
  pub variables : (variable : ℕ) → is_some (storage_of parts.variables variable) ≡ (is_fixed flow variable || list_any (nat_eq variable) standing.variables)
  pub registers : (register : ℕ) → held_size parts register ≡ size_of standing.registers register
  pub ports : parts.ports ≡ []

pub record FitWith (flow : Flow) (standing : Standing) (graphs : List Parts) : Type 0 where
  pub each : (place : ℕ) (parts : Parts) → slice_get graphs place ≡ Some parts → FitsWith flow standing parts

-- the storage of each variable that a graph names has the variable's size
pub record HasStorages (flow : Flow) (parts : Parts) : Type 0 where
  pub sizes : (variable key : ℕ) (object : Object) → storage_of parts.variables variable ≡ Some key → object_at parts.objects key ≡ Some object → object.size ≡ size_in flow variable

-- an instruction may be the next one at a point
pub record MayBeNext (flow : Flow) (point : ℕ) (instr : Instr) : Type 0 where
  pub reads : IsTrue (reads_what_stands flow (stands_at flow point) instr)
  pub sizes : IsTrue (has_sizes instr)
  pub tests : IsTrue (tests_one_size (stands_at flow point) instr)
  pub scope : IsTrue (has_scope flow (stands_at flow point) instr)
  pub variables : All (λ variable. IsTrue (is_object_size variable.size)) flow.variables

-- and may follow where such a graph is, if no register through which it goes names a segment
pub record MayFollow (flow : Flow) (point : ℕ) (instr : Instr) (parts : Parts) : Type 0 where
  pub fits : FitsAt flow point parts
  pub reads : IsTrue (reads_what_stands flow (stands_at flow point) instr)
  pub sizes : IsTrue (has_sizes instr)
  pub tests : IsTrue (tests_one_size (stands_at flow point) instr)
  pub scope : IsTrue (has_scope flow (stands_at flow point) instr)
  pub variables : All (λ variable. IsTrue (is_object_size variable.size)) flow.variables
  pub through : name_no_segment (goes_through instr) parts ≡ true
