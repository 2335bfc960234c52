-- Parts with other keys.
use Rattle.std.specs.Prelude.{ℕ, ◌+◌, List, [], ◌∷◌, map, nat_eq}
use Rattle.std.specs.List.{position_or_len}
use Rattle.graph.specs.declared.edges.HasValue.{HasValue}
use Rattle.graph.specs.declared.object.Object.{Object}
use Rattle.graph.specs.declared.object.Shape.{Shape}
use Rattle.graph.specs.declared.object.Shape.TheVariants.{Region, Segment}
use Rattle.graph.specs.declared.template.Node.{Node}
use Rattle.graph.specs.declared.value.Value.{Value}
use Rattle.graph.specs.declared.value.Value.TheVariants.{Const, Number, Any, Address}
use Rattle.graph.specs.declared.parts.KeyedObject.{KeyedObject}
use Rattle.graph.specs.declared.parts.KeyedValue.{KeyedValue}
use Rattle.graph.specs.declared.parts.Named.{Named}
use Rattle.graph.specs.declared.parts.Held.{Held}
use Rattle.graph.specs.declared.parts.Pair.{Pair}
use Rattle.graph.specs.declared.parts.Parts.{Parts}

-- an edge whose value has another key
abbrev pub renamed_edge : (ℕ → ℕ) → HasValue → HasValue
renamed_edge values edge = record edge { value = values edge.value }

-- what is said of bytes, with other keys of values
abbrev pub renamed_node : (ℕ → ℕ) → Node → Node
renamed_node values node = record node { edges = map (renamed_edge values) node.edges }

-- a shape whose values have other keys
abbrev pub renamed_shape : (ℕ → ℕ) → Shape → Shape
renamed_shape values Region = Region
renamed_shape values (Segment twofold head next prev back least next_value prev_value node) =
    Segment twofold head next prev back least (values next_value) (values prev_value) (renamed_node values node)

-- an object whose values have other keys
abbrev pub renamed_object : (ℕ → ℕ) → Object → Object
renamed_object values object = record object { shape = renamed_shape values object.shape; edges = map (renamed_edge values) object.edges }

-- a value whose object has another key
abbrev pub renamed_value : (ℕ → ℕ) → Value → Value
renamed_value objects (Const number size) = Const number size
renamed_value objects (Number size) = Number size
renamed_value objects Any = Any
renamed_value objects (Address object offset target) = Address (objects object) offset target

abbrev pub renamed_pair : (ℕ → ℕ) → Pair → Pair
renamed_pair values pair = record { left = values pair.left; right = values pair.right }

-- parts whose objects and values have other keys, wherever they stand
abbrev pub renamed : (ℕ → ℕ) → (ℕ → ℕ) → Parts → Parts
renamed objects values parts = record {
  objects = map {B = KeyedObject} (λ entry. record { key = objects entry.key; object = renamed_object values entry.object }) parts.objects;
  values = map {B = KeyedValue} (λ entry. record { key = values entry.key; value = renamed_value objects entry.value }) parts.values;
  variables = map {B = Named} (λ named. record { variable = named.variable; object = objects named.object }) parts.variables;
  registers = map {B = Held} (λ held. record { register = held.register; value = values held.value }) parts.registers;
  ports = map values parts.ports;
  unequal = map (renamed_pair values) parts.unequal;
}

-- the place of a key among these: how many stand before it
abbrev pub place_among : List ℕ → ℕ → ℕ
place_among keys key = position_or_len (nat_eq key) keys

-- the keys of the objects, and of the values, in order
abbrev pub object_keys : Parts → List ℕ
object_keys parts = map (λ entry. entry.key) parts.objects

abbrev pub value_keys : Parts → List ℕ
value_keys parts = map (λ entry. entry.key) parts.values

-- objects and values with keys that go up from a first one by one
abbrev pub objects_from : ℕ → List Object → List KeyedObject
objects_from key [] = []
objects_from key (object ∷ rest) = record { key = key; object = object } ∷ objects_from (key + 1) rest

abbrev pub values_from : ℕ → List Value → List KeyedValue
values_from key [] = []
values_from key (value ∷ rest) = record { key = key; value = value } ∷ values_from (key + 1) rest

-- the place of a key among those of the objects, and of the values
abbrev pub object_place : Parts → ℕ → ℕ
object_place parts key = place_among (object_keys parts) key

abbrev pub value_place : Parts → ℕ → ℕ
value_place parts key = place_among (value_keys parts) key

-- parts whose keys are their places, 0, 1 and so on in each of the two lists; where no key stands twice
-- that is `renamed (object_place parts) (value_place parts) parts`
abbrev pub numbered : Parts → Parts
numbered parts = record (renamed (object_place parts) (value_place parts) parts) {
  objects = objects_from 0 (map (λ entry. renamed_object (value_place parts) entry.object) parts.objects);
  values = values_from 0 (map (λ entry. renamed_value (object_place parts) entry.value) parts.values);
}
