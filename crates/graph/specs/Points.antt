-- The points of a graph, in the order of one walk over its parts.
use Rattle.std.specs.Prelude.{ℕ, Bool, true, ◌&&◌, ◌||◌, not, List, [], ◌∷◌, nat_le}
use Rattle.std.specs.List.{list_all}
use Rattle.graph.specs.declared.edges.HasValue.{HasValue}
use Rattle.graph.specs.declared.object.Object.{Object}
use Rattle.graph.specs.declared.object.Shape.{Shape}
use Rattle.graph.specs.declared.value.Value.{Value}
use Rattle.graph.specs.declared.parts.Parts.{Parts}
use Rattle.graph.specs.Nodes.{is_region, links_in, node_of, link_edges}
use Rattle.graph.specs.Sizes.{is_sized, is_zero}
use Rattle.graph.specs.WellFormed.{lies_in, may_stand_in, are_in_order, edge_has_size, edge_has_class, passes_at, has_class_a_byte, says_nothing, is_segment_storage, share_no_byte, link_is_any, is_outward, back_fits, leads_to_object, registers_hold_values, ports_are_values, variables_have_storage, storage_is_distinct, variables_ascend, registers_ascend, pairs_may_be_unequal, pairs_are_different}

-- all that is asked of an edge in an object with this key and size
abbrev pub edge_fits : Parts → ℕ → ℕ → List ℕ → HasValue → Bool
edge_fits parts key size plane edge =
    lies_in size edge
    && (edge_has_size parts edge
    && (edge_has_class parts plane edge && (passes_at parts (λ value. not (is_zero value)) edge.value && passes_at parts (may_stand_in key) edge.value)))

-- all that is asked of edges
abbrev pub edges_fit : Parts → ℕ → ℕ → List ℕ → List HasValue → Bool
edges_fit parts key size plane edges = are_in_order edges && list_all (edge_fits parts key size plane) edges

-- all that is asked of a link
abbrev pub link_fits : Parts → ℕ → List ℕ → List HasValue → HasValue → Bool
link_fits parts size plane edges link =
    lies_in size link && (list_all (share_no_byte link) edges && (link_is_any plane link && passes_at parts is_outward link.value))

-- all that is asked of the links of an object
abbrev pub links_fit : Parts → ℕ → List ℕ → List HasValue → Shape → Bool
links_fit parts size plane edges shape =
    are_in_order (link_edges shape) && (list_all (link_fits parts size plane edges) (link_edges shape) && back_fits parts size (links_in shape))

-- what is asked of where an object lies, and of what is said of its own bytes
abbrev pub is_stored : Object → Bool
is_stored object =
    (object.live || (is_region object.shape && says_nothing object.edges object.plane)) && (is_region object.shape || is_segment_storage object)

-- what is asked of the edges and links of an object with this key
abbrev pub contents_fit : Parts → ℕ → Object → Bool
contents_fit parts key object =
    edges_fit parts key object.size (node_of object).plane (node_of object).edges
    && links_fit parts object.size (node_of object).plane (node_of object).edges object.shape

-- all that is asked of an object with this key
abbrev pub object_fits : Parts → ℕ → Object → Bool
object_fits parts key object = nat_le object.size 65536 && (has_class_a_byte object && (is_stored object && contents_fit parts key object))

abbrev pub objects_fit : Parts → Bool
objects_fit parts = list_all (λ entry. object_fits parts entry.key entry.object) parts.objects

-- all that is asked of a value
abbrev pub value_fits : Parts → Value → Bool
value_fits parts value = leads_to_object parts value && is_sized value

abbrev pub values_fit : Parts → Bool
values_fit parts = list_all (λ entry. value_fits parts entry.value) parts.values

-- all points that are tests but the last
abbrev pub passes_all : Parts → Bool
passes_all parts =
    objects_fit parts
    && (values_fit parts
    && (variables_have_storage parts
    && (storage_is_distinct parts
    && (variables_ascend parts
    && (registers_hold_values parts
    && (registers_ascend parts && (ports_are_values parts && (pairs_may_be_unequal parts && pairs_are_different parts))))))))

-- each item and the one behind it pass a test
abbrev pub neighbours : {Item : Type 0} → (Item → Item → Bool) → List Item → Bool
neighbours test [] = true
neighbours test (one ∷ []) = true
neighbours test (one ∷ (other ∷ rest)) = test one other && neighbours test (other ∷ rest)
