-- The live heap objects to which no chain has to lead.
use Rattle.std.specs.Prelude.{◌≡◌, ℕ, ◌+◌, ◌*◌, Bool, true, false, ◌&&◌, ◌||◌, not, List, [], ◌∷◌, map, length, slice_get, Some, nat_lt, IsSome}
use Rattle.std.specs.List.{filter, list_any}
use Rattle.bytes_core.specs.Marking.{is_open}
use Rattle.bytes_core.specs.Release.{is_heap}
use Rattle.graph.specs.declared.edges.HasValue.{HasValue}
use Rattle.graph.specs.declared.object.Object.{Object}
use Rattle.graph.specs.declared.value.Value.{Value}
use Rattle.graph.specs.declared.value.Value.TheVariants.{Const, Number, Any, Address}
use Rattle.graph.specs.declared.parts.Held.{Held}
use Rattle.graph.specs.declared.parts.KeyedObject.{KeyedObject}
use Rattle.graph.specs.declared.parts.Parts.{Parts}
use Rattle.graph.specs.Choices.{is_free}
use Rattle.graph.specs.Maps.{object_at}
use Rattle.graph.specs.Meaning.{Assignment, Meets, maps_of}
use Rattle.graph.specs.Nodes.{node_of}
use Rattle.graph.specs.State.{State, IsState}
use Rattle.graph.specs.WellFormed.{passes_at}
use Rattle.heap_steps.specs.Ends.{first_places, places_behind}
use Rattle.heap_steps.specs.Reached.{IsLost}
use Rattle.heap_steps.specs.Ways.{is_led_to}

-- whether the end at a place is led to
abbrev pub is_end_reached : Parts → ℕ → Bool
is_end_reached parts place = is_led_to (2 * length parts.objects) (first_places parts) (places_behind parts) place

-- whether an end of the object with a key is
abbrev pub is_object_reached : Parts → ℕ → Bool
is_object_reached parts key = is_end_reached parts key || is_end_reached parts (length parts.objects + key)

abbrev pub is_unreached : Parts → KeyedObject → Bool
is_unreached parts entry = entry.object.live && (is_heap entry.object.kind && not (is_object_reached parts entry.key))

-- the keys of the live heap objects that are not reached, in ascending order
abbrev pub unreached : Parts → List ℕ
unreached parts = map (λ (entry : KeyedObject). entry.key) (filter (is_unreached parts) parts.objects)

-- whether an object is live and allocated, and neither of its ends is marked
abbrev pub is_unmarked_object : ℕ → List Bool → ℕ → Object → Bool
is_unmarked_object count marks key object = object.live && (is_heap object.kind && (is_open marks key && is_open marks (count + key)))

abbrev pub is_unmarked : ℕ → List Bool → KeyedObject → Bool
is_unmarked count marks entry = is_unmarked_object count marks entry.key entry.object

-- some memory that the graph stands for loses a block of the object with this key
pub record SomeMemoryLoses (parts : Parts) (key : ℕ) : Type 0 where
  pub there : IsSome (object_at parts.objects key)
  pub state : State
  pub is : IsState state
  pub given : Assignment
  pub meets : Meets (maps_of parts) state given
  pub place : ℕ
  pub number : ℕ
  pub block : slice_get (given.blocks key) place ≡ Some number
  pub lost : IsLost state number

-- whether a byte that may be part of a pointer lies in none of these edges, the first of these classes being that of a place
abbrev pub has_loose_byte : List HasValue → ℕ → List ℕ → Bool
has_loose_byte edges place [] = false
has_loose_byte edges place (class ∷ plane) = (nat_lt 1 class && is_free edges place) || has_loose_byte edges (place + 1) plane

abbrev pub is_any : Value → Bool
is_any (Const number size) = false
is_any (Number size) = false
is_any Any = true
is_any (Address object offset target) = false

-- whether an edge holds a value that is any word, be it one of an object or of its nodes; links hold none
abbrev pub edges_hold_any : Parts → List HasValue → Bool
edges_hold_any parts edges = list_any (λ (edge : HasValue). passes_at parts is_any edge.value) edges

abbrev pub objects_hold_any : Parts → Bool
objects_hold_any parts = list_any (λ (entry : KeyedObject). edges_hold_any parts (node_of entry.object).edges) parts.objects

-- whether an edge, a register or a port does
abbrev pub holds_any : Parts → Bool
holds_any parts = objects_hold_any parts || (list_any (λ (held : Held). passes_at parts is_any held.value) parts.registers || list_any (passes_at parts is_any) parts.ports)

-- whether a byte of class 2 lies in no edge, as those of links do
abbrev pub some_loose : Parts → Bool
some_loose parts = list_any (λ (entry : KeyedObject). has_loose_byte (node_of entry.object).edges 0 (node_of entry.object).plane) parts.objects

-- whether something may lead anywhere
abbrev pub may_lead_anywhere : Parts → Bool
may_lead_anywhere parts = some_loose parts || holds_any parts
