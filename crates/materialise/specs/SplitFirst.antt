-- A graph in which the first node of a segment is a region of its own.
use Rattle.std.specs.Prelude.{ℕ, ◌+◌, ◌-◌, Bool, true, false, List, [], ◌∷◌, ◌++◌, map, length, nat_eq, nat_lt, if◌then◌else◌, ℤ, pos}
use Rattle.std.specs.List.{filter, list_any}
use Rattle.std.specs.Option.{option_map_or}
use Rattle.planes.specs.Classes.{filled}
use Rattle.graph.specs.declared.edges.HasValue.{HasValue}
use Rattle.graph.specs.declared.object.Links.{Links}
use Rattle.graph.specs.declared.object.Object.{Object}
use Rattle.graph.specs.declared.object.Shape.{Shape}
use Rattle.graph.specs.declared.object.Shape.TheVariants.{Region as RegionShape, Segment}
use Rattle.graph.specs.declared.template.Node.{Node}
use Rattle.graph.specs.declared.value.Target.{Target}
use Rattle.graph.specs.declared.value.Target.TheVariants.{Region, First, Last, Each}
use Rattle.graph.specs.declared.value.Value.{Value}
use Rattle.graph.specs.declared.value.Value.TheVariants.{Const, Number, Any, Address}
use Rattle.graph.specs.declared.parts.KeyedValue.{KeyedValue}
use Rattle.graph.specs.declared.parts.Parts.{Parts}
use Rattle.graph.specs.Maps.{object_at, value_at}
use Rattle.graph.specs.Nodes.{node_of}
use Rattle.graph.specs.Renaming.{place_among, values_from}
use Rattle.graph.specs.Sizes.{is_zero}
use Rattle.changes.specs.Parts.{replaced}
use Rattle.changes.specs.Ranges.{class_for}
use Rattle.materialise.specs.Dropped.{links_at, dropped}

-- Own addresses.

abbrev pub is_own_target : Target → Bool
is_own_target Region = false
is_own_target First = false
is_own_target Last = false
is_own_target Each = true

-- a value is the own address of each node of the segment with a key
abbrev pub is_own : ℕ → Value → Bool
is_own key (Const number size) = false
is_own key (Number size) = false
is_own key Any = false
is_own key (Address object offset target) = if nat_eq object key then is_own_target target else false

abbrev pub own_values : ℕ → Parts → List KeyedValue
own_values key parts = filter (λ entry. is_own key entry.value) parts.values

abbrev pub own_keys : ℕ → Parts → List ℕ
own_keys key parts = map (λ entry. entry.key) (own_values key parts)

-- the address at the same offset of a region
abbrev pub at_region : ℕ → Value → Value
at_region region (Const number size) = Const number size
at_region region (Number size) = Number size
at_region region Any = Any
at_region region (Address object offset target) = Address region offset Region

-- what a node that becomes a region holds in place of its own addresses: values more, one for each, behind all others
abbrev pub alone_key : ℕ → Parts → ℕ → ℕ
alone_key key parts at = if list_any (nat_eq at) (own_keys key parts) then length parts.values + place_among (own_keys key parts) at else at

-- The new region.

-- edges with one more, in the order of their places
abbrev pub with_edge : HasValue → List HasValue → List HasValue
with_edge edge edges = filter (λ other. nat_lt other.at edge.at) edges ++ edge ∷ filter (λ other. nat_lt edge.at other.at) edges

-- with a link: the constant 0 has no edge
abbrev pub with_link : Value → HasValue → Node → Node
with_link value link node = record {
  edges = if is_zero value then node.edges else with_edge link node.edges;
  plane = filled node.plane link.at link.size (class_for value);
}

abbrev pub with_link_if : Bool → Value → HasValue → Node → Node
with_link_if false value link node = node
with_link_if true value link node = with_link value link node

-- a node as it stands in the template, with its own addresses
abbrev pub alone : ℕ → Parts → Node → Node
alone key parts node = record { edges = map {B = HasValue} (λ edge. record edge { value = alone_key key parts edge.value }) node.edges; plane = node.plane }

-- the value with a key, as a link holds it
abbrev pub link_value : Parts → ℕ → Value
link_value parts link = option_map_or (λ value. value) (value_at parts.values link) Any

-- a live region of the size and the kind of a segment's nodes
abbrev pub node_region : Object → Node → Object
node_region object node = record object { shape = RegionShape; edges = node.edges; plane = node.plane }

-- The rest.

-- a segment of one node less at least, before which this value lies
abbrev pub rest_behind : ℕ → Shape → Shape
rest_behind before RegionShape = RegionShape
rest_behind before (Segment twofold head next prev back least next_value prev_value node) =
    Segment twofold head next prev back (least - 1) next_value (if twofold then before else prev_value) node

-- an address of the first node is one of the new region; one of the last node is one of the rest
abbrev pub first_target : ℕ → ℕ → Target → ℤ → Value
first_target region key Region offset = Address key offset Region
first_target region key First offset = Address region offset Region
first_target region key Last offset = Address key offset Last
first_target region key Each offset = Address key offset Each

abbrev pub first_value : ℕ → ℕ → Value → Value
first_value region key (Const number size) = Const number size
first_value region key (Number size) = Number size
first_value region key Any = Any
first_value region key (Address object offset target) = if nat_eq object key then first_target region key target offset else Address object offset target

-- The whole. The region's key is how many objects there were. Values more are the region's own addresses, the address of the first node of the rest, at
-- the place to which links lead, which the region holds as its link; and, linked both ways, the address of the region, at the place to which links back
-- lead, which lies before the rest. The region's link back is what lay before the segment.
abbrev pub split_first_by : Parts → ℕ → Object → Links → Parts
split_first_by parts key object links =
    let region = length parts.objects in
    let owned = length parts.values + length (own_values key parts) in
    let node = with_link_if links.twofold (first_value region key (link_value parts links.prev_value)) (record { at = links.prev; size = 8; value = links.prev_value })
    (with_link (Address key (pos links.head) First) (record { at = links.next; size = 8; value = owned }) (alone key parts (node_of object))) in
    record parts {
      objects = map (replaced key (record object { shape = rest_behind (owned + 1) object.shape })) parts.objects ++ record { key = region; object = node_region object node } ∷ [];
      values = map {B = KeyedValue} (λ entry. record { key = entry.key; value = first_value region key entry.value }) parts.values
          ++ values_from (length parts.values) (map (λ entry. at_region region entry.value) (own_values key parts) ++ Address key (pos links.head) First ∷ (if links.twofold then Address region (pos links.back) Region ∷ [] else []));
    }

abbrev pub split_first : ℕ → Parts → Parts
split_first key parts = option_map_or (λ object. option_map_or (split_first_by parts key object) (links_at parts key) parts) (object_at parts.objects key) parts

-- the cases of a segment: without nodes, where it may be, and with a first one
abbrev pub first_nodes : ℕ → Parts → List Parts
first_nodes key parts = option_map_or (λ (links : Links). if nat_eq links.least 0 then dropped key parts ∷ split_first key parts ∷ [] else split_first key parts ∷ []) (links_at parts key) []
