-- Marks of what stays: for each value, and for each object, whether it is marked.
use Rattle.std.specs.Prelude.{ℕ, Bool, true, false, ◌&&◌, List, length, replicate, slice_set, slice_index_or, if◌then◌else◌}
use Rattle.std.specs.List.{fold}
use Rattle.graph.specs.declared.edges.HasValue.{HasValue}
use Rattle.graph.specs.declared.object.Object.{Object}
use Rattle.graph.specs.declared.object.Shape.{Shape}
use Rattle.graph.specs.declared.object.Shape.TheVariants.{Region, Segment}
use Rattle.graph.specs.declared.value.Value.{Value}
use Rattle.graph.specs.declared.value.Value.TheVariants.{Const, Number, Any, Address}
use Rattle.graph.specs.declared.parts.Held.{Held}
use Rattle.graph.specs.declared.parts.KeyedObject.{KeyedObject}
use Rattle.graph.specs.declared.parts.KeyedValue.{KeyedValue}
use Rattle.graph.specs.declared.parts.Pair.{Pair}
use Rattle.graph.specs.declared.parts.Parts.{Parts}
use Rattle.graph.specs.Nodes.{node_of}
use Rattle.graph.specs.Sizes.{is_constant}
use Rattle.graph.specs.WellFormed.{passes_at}

abbrev pub is_marked : List Bool → ℕ → Bool
is_marked marks key = slice_index_or marks key false

-- a key is marked, if there is a place for it
abbrev pub marked : List Bool → ℕ → List Bool
marked marks key = slice_set marks key true

-- it is marked where something holds
abbrev pub marked_if : Bool → List Bool → ℕ → List Bool
marked_if holds marks key = if holds then marked marks key else marks

-- Values that are held.

abbrev pub edges_marked : List Bool → List HasValue → List Bool
edges_marked marks edges = fold (λ marks edge. marked marks edge.value) marks edges

abbrev pub links_marked : List Bool → Shape → List Bool
links_marked marks Region = marks
links_marked marks (Segment twofold head next prev back least next_value prev_value node) = marked (marked marks next_value) prev_value

abbrev pub object_marked : List Bool → Object → List Bool
object_marked marks object = links_marked (edges_marked marks (node_of object).edges) object.shape

abbrev pub objects_marked : List Bool → List KeyedObject → List Bool
objects_marked marks entries = fold (λ marks entry. object_marked marks entry.object) marks entries

abbrev pub registers_marked : List Bool → List Held → List Bool
registers_marked marks registers = fold (λ marks held. marked marks held.value) marks registers

abbrev pub ports_marked : List Bool → List ℕ → List Bool
ports_marked marks ports = fold marked marks ports

-- of each value whether something holds it
abbrev pub held_marks : Parts → List Bool
held_marks parts = ports_marked (registers_marked (objects_marked (replicate (length parts.values) false) parts.objects) parts.registers) parts.ports

-- Values that stay.

-- a constant is marked where the other value of its pair is held
abbrev pub pair_marked : Parts → List Bool → List Bool → Pair → List Bool
pair_marked parts held marks pair =
    marked_if (passes_at parts is_constant pair.right && is_marked held pair.left)
    (marked_if (passes_at parts is_constant pair.left && is_marked held pair.right) marks pair.left) pair.right

abbrev pub pairs_marked : Parts → List Bool → List Bool → List Pair → List Bool
pairs_marked parts held marks pairs = fold (pair_marked parts held) marks pairs

abbrev pub value_marks : Parts → List Bool
value_marks parts = pairs_marked parts (held_marks parts) (held_marks parts) parts.unequal

-- Objects that stay.

abbrev pub live_marked : List Bool → List KeyedObject → List Bool
live_marked marks entries = fold (λ marks entry. marked_if entry.object.live marks entry.key) marks entries

-- the object is marked of which a value is an address
abbrev pub named_marked : List Bool → Value → List Bool
named_marked marks (Const number size) = marks
named_marked marks (Number size) = marks
named_marked marks Any = marks
named_marked marks (Address object offset target) = marked marks object

abbrev pub value_marked : List Bool → List Bool → KeyedValue → List Bool
value_marked values marks entry = if is_marked values entry.key then named_marked marks entry.value else marks

abbrev pub values_marked : List Bool → List Bool → List KeyedValue → List Bool
values_marked values marks entries = fold (value_marked values) marks entries

abbrev pub object_marks : Parts → List Bool → List Bool
object_marks parts values = values_marked values (live_marked (replicate (length parts.objects) false) parts.objects) parts.values
