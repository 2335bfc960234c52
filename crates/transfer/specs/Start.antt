-- The graph of the states in which runs of a flow graph begin.
--
-- Each static variable has a region of zeros, in which the scalars stand that its initialiser sets; and each parameter of main has one of which
-- nothing is known but that its bytes are numbers.
use Rattle.std.specs.Prelude.{◌≡◌, ℕ, ◌+◌, true, List, [], ◌∷◌, ◌++◌, map, length, ℤ, Option, None, Some, is_some, if◌then◌else◌}
use Rattle.std.specs.List.{list_all}
use Rattle.bytes_core.specs.declared.block.BlockKind.TheVariants.{Static}
use Rattle.graph.specs.declared.object.Object.{Object}
use Rattle.graph.specs.declared.parts.Parts.{Parts}
use Rattle.graph.specs.declared.value.Target.TheVariants.{Region}
use Rattle.graph.specs.declared.value.Value.{Value}
use Rattle.graph.specs.declared.value.Value.TheVariants.{Const, Address}
use Rattle.graph.specs.Maps.{object_at, storage_of}
use Rattle.graph.specs.Nodes.{is_region}
use Rattle.graph.specs.Whole.{IsGraph, no_parts}
use Rattle.changes.specs.Places.{IsRoom}
use Rattle.changes.specs.Parts.{with_object, with_object_more, with_value}
use Rattle.changes.specs.Ranges.{written_object}
use Rattle.reinterpret.specs.Writing.{edge_at}
use Rattle.block_steps.specs.Blocks.{new_object}
use Rattle.block_steps.specs.Entering.{with_entered}
use Rattle.flow.specs.declared.flow_graph.Flow.{Flow}
use Rattle.flow.specs.declared.flow_graph.Variable.{Variable}
use Rattle.flow.specs.declared.flow_graph.Initial.{Initial}
use Rattle.flow.specs.declared.flow_graph.InitialWord.{InitialWord}
use Rattle.flow.specs.declared.flow_graph.InitialWord.TheVariants as initial
use Rattle.flow.specs.Machine.{size_in}
use Rattle.flow.specs.Runs.{parameters_of}
use Rattle.flow.specs.Valid.{is_fixed}
use Rattle.transfer.specs.Fitting.{HasStorages}

-- a static variable more, whose bytes are 0. Its number is above those of all others
abbrev pub with_static : ℕ → ℕ → Parts → Parts
with_static number size parts = with_object_more (new_object Static size true) (record parts { variables = parts.variables ++ record { variable = number; object = length parts.objects } ∷ [] })

-- the static ones among variables, of which the first is numbered `number`
abbrev pub with_statics : ℕ → List Variable → Parts → Parts
with_statics number [] parts = parts
with_statics number (variable ∷ rest) parts = with_statics (number + 1) rest (if variable.fixed then with_static number variable.size parts else parts)

-- what a scalar of so many bytes holds at the start: a number, or an address in a static variable, whose storage has this key
abbrev pub address_of : Option ℕ → ℤ → Value
address_of None offset = Const 0 8
address_of (Some key) offset = Address key offset Region

abbrev pub initial_value : Parts → ℕ → InitialWord → Value
initial_value parts size (initial.Number number) = Const number size
initial_value parts size (initial.Address variable offset) = address_of (storage_of parts.variables variable) offset

-- the scalar stands in the object with a key, in place of what stood there
abbrev pub with_scalar : Option ℕ → Option Object → Initial → Value → Parts → Parts
with_scalar None object scalar value parts = parts
with_scalar (Some key) None scalar value parts = parts
with_scalar (Some key) (Some object) scalar value parts = with_object key (written_object object (edge_at scalar.at scalar.size (length parts.values)) value) (with_value value parts)

abbrev pub object_found : Parts → Option ℕ → Option Object
object_found parts None = None
object_found parts (Some key) = object_at parts.objects key

abbrev pub with_initial : Initial → Parts → Parts
with_initial scalar parts =
    with_scalar (storage_of parts.variables scalar.variable) (object_found parts (storage_of parts.variables scalar.variable)) scalar (initial_value parts scalar.size scalar.word) parts

abbrev pub with_initials : List Initial → Parts → Parts
with_initials [] parts = parts
with_initials (first ∷ rest) parts = with_initials rest (with_initial first parts)

-- the static variables of a flow graph, as they are before main's parameters stand
abbrev pub static_graph : Flow → Parts
static_graph flow = with_initials flow.initial (with_statics 0 flow.variables no_parts)

abbrev pub start_graph : Flow → Parts
start_graph flow = with_entered (parameters_of flow flow.main) (map (size_in flow) (parameters_of flow flow.main)) (static_graph flow)

pub record IsStartGraph (flow : Flow) (parts : Parts) : Type 0 where
  pub is : parts ≡ start_graph flow
  pub graph : IsGraph parts

-- Graphs on the way there.

-- a graph of regions that names the static variables, whose storage has their sizes, and holds nothing else
pub record AreNamed (flow : Flow) (parts : Parts) : Type 0 where
  pub graph : IsGraph parts
  pub regions : list_all (λ entry. is_region entry.object.shape) parts.objects ≡ true
  pub storages : HasStorages flow parts
  pub registers : parts.registers ≡ []
  pub ports : parts.ports ≡ []
  pub named : (variable : ℕ) → is_some (storage_of parts.variables variable) ≡ is_fixed flow variable

-- a scalar may stand in a graph: its variable's storage has room for it, and what it holds may be a value of the graph
pub record MayStand (parts : Parts) (scalar : Initial) : Type 0 where
  pub key : ℕ
  pub stored : storage_of parts.variables scalar.variable ≡ Some key
  pub graph : IsGraph (with_value (initial_value parts scalar.size scalar.word) parts)
  pub room : IsRoom (with_value (initial_value parts scalar.size scalar.word) parts) key scalar.at scalar.size
