-- A graph without a segment, which has no nodes.
use Rattle.std.specs.Prelude.{ℕ, not, List, [], ◌∷◌, map, nat_eq, Option}
use Rattle.std.specs.List.{filter}
use Rattle.std.specs.Option.{option_and_then, option_map_or}
use Rattle.planes.specs.Classes.{filled}
use Rattle.graph.specs.declared.edges.HasValue.{HasValue}
use Rattle.graph.specs.declared.object.Links.{Links}
use Rattle.graph.specs.declared.object.Object.{Object}
use Rattle.graph.specs.declared.object.Shape.{Shape}
use Rattle.graph.specs.declared.object.Shape.TheVariants.{Region, Segment}
use Rattle.graph.specs.declared.template.Node.{Node}
use Rattle.graph.specs.declared.value.Value.{Value}
use Rattle.graph.specs.declared.parts.KeyedObject.{KeyedObject}
use Rattle.graph.specs.declared.parts.KeyedValue.{KeyedValue}
use Rattle.graph.specs.declared.parts.Parts.{Parts}
use Rattle.graph.specs.Maps.{object_at}
use Rattle.graph.specs.Nodes.{links_in}
use Rattle.graph.specs.Sizes.{is_zero}
use Rattle.changes.specs.Ranges.{class_for}
use Rattle.materialise.specs.Beyond.{emptied_value, value_after}

-- Where values become others (`now` says what the value with a key becomes), edges whose value becomes the constant 0 go,
abbrev pub edges_now : (ℕ → Value) → List HasValue → List HasValue
edges_now now edges = filter (λ edge. not (is_zero (now edge.value))) edges

-- and the bytes of each edge get the class of its value, those of the constant 0 class 0
abbrev pub plane_now : (ℕ → Value) → List HasValue → List ℕ → List ℕ
plane_now now [] plane = plane
plane_now now (edge ∷ rest) plane = plane_now now rest (filled plane edge.at edge.size (class_for (now edge.value)))

abbrev pub node_now : (ℕ → Value) → Node → Node
node_now now node = record { edges = edges_now now node.edges; plane = plane_now now node.edges node.plane }

-- so it is in the nodes of segments
abbrev pub shape_now : (ℕ → Value) → Shape → Shape
shape_now now Region = Region
shape_now now (Segment twofold head next prev back least next_value prev_value node) =
    Segment twofold head next prev back least next_value prev_value (node_now now node)

abbrev pub object_now : (ℕ → Value) → Object → Object
object_now now object = record object {
  shape = shape_now now object.shape;
  edges = edges_now now object.edges;
  plane = plane_now now object.edges object.plane;
}

abbrev pub entry_now : (ℕ → Value) → KeyedObject → KeyedObject
entry_now now entry = record { key = entry.key; object = object_now now entry.object }

-- the links of the segment with a key
abbrev pub links_at : Parts → ℕ → Option Links
links_at parts key = option_and_then (λ object. links_in object.shape) (object_at parts.objects key)

-- the segment with a key goes, and its addresses are what lies beyond its ends
abbrev pub dropped_by : Parts → ℕ → Links → Parts
dropped_by parts key links = record parts {
  objects = filter (λ entry. not (nat_eq entry.key key)) (map (entry_now (value_after parts key links)) parts.objects);
  values = map {B = KeyedValue} (λ entry. record { key = entry.key; value = emptied_value parts key links entry.value }) parts.values;
}

abbrev pub dropped : ℕ → Parts → Parts
dropped key parts = option_map_or (dropped_by parts key) (links_at parts key) parts
