-- Which parts make a graph. Each point is a test of its own, but for the one on segments that may be empty; the last one, on how
-- much a graph may hold, stands apart.
--
-- What is said of the bytes of a block is said of a region by its own edges and plane, and of each node of a segment by those of its
-- node. So one point on edges speaks of both.
use Rattle.std.specs.Prelude.{◌≡◌, ℕ, ◌+◌, ◌^◌, ◌<◌, max, Bool, true, false, ◌&&◌, ◌||◌, not, List, [], ◌∷◌, map, length, take, drop, sum_by, nat_eq, nat_le, nat_lt, Option, None, Some, is_some, IsTrue, if◌then◌else◌}
use Rattle.std.specs.List.{list_all, AllPairs}
use Rattle.std.specs.Option.{option_map_or}
use Rattle.bytes_core.specs.Release.{is_heap}
use Rattle.graph.specs.declared.edges.HasValue.{HasValue}
use Rattle.graph.specs.declared.object.Links.{Links}
use Rattle.graph.specs.declared.object.Object.{Object}
use Rattle.graph.specs.declared.object.Shape.{Shape}
use Rattle.graph.specs.declared.object.Shape.TheVariants.{Region as RegionShape, Segment}
use Rattle.graph.specs.declared.value.Target.{Target}
use Rattle.graph.specs.declared.value.Target.TheVariants.{Region, First, Last, Each}
use Rattle.graph.specs.declared.value.Value.{Value}
use Rattle.graph.specs.declared.value.Value.TheVariants.{Const, Number, Any, Address}
use Rattle.graph.specs.declared.parts.Pair.{Pair}
use Rattle.graph.specs.declared.parts.Parts.{Parts}
use Rattle.graph.specs.Maps.{object_at, value_at}
use Rattle.graph.specs.Nodes.{is_region, links_in, node_of, link_edges}
use Rattle.graph.specs.Sizes.{value_size, value_class, is_sized, is_zero, is_number, is_constant}

-- no number stands twice
abbrev pub are_distinct : List ℕ → Bool
are_distinct [] = true
are_distinct (first ∷ rest) = list_all (λ other. not (nat_eq first other)) rest && are_distinct rest

-- each number is above all those before it
abbrev pub are_ascending : List ℕ → Bool
are_ascending [] = true
are_ascending (first ∷ rest) = list_all (nat_lt first) rest && are_ascending rest

-- the keys of both lists ascend, so that none stands twice
pub record HasAscendingKeys (parts : Parts) : Type 0 where
  pub objects : AllPairs (λ one other. one.key < other.key) parts.objects
  pub values : AllPairs (λ one other. one.key < other.key) parts.values

-- the test passes at the value with this key, which is there
abbrev pub passes_at : Parts → (Value → Bool) → ℕ → Bool
passes_at parts test key = option_map_or test (value_at parts.values key) false

-- a value with this key is there
abbrev pub has_value : Parts → ℕ → Bool
has_value parts key = is_some (value_at parts.values key)

-- Keys.

-- each edge holds a value that is there
abbrev pub edges_hold_values : Parts → Bool
edges_hold_values parts = list_all (λ entry. list_all (λ edge. has_value parts edge.value) (node_of entry.object).edges) parts.objects

-- the address of a node may stand in what is said of the nodes of the segment with this key
abbrev pub is_at_home : ℕ → Target → ℕ → Bool
is_at_home object Region home = true
is_at_home object First home = true
is_at_home object Last home = true
is_at_home object Each home = nat_eq object home

-- a value may stand in the object with this key
abbrev pub may_stand_in : ℕ → Value → Bool
may_stand_in home (Const number size) = true
may_stand_in home (Number size) = true
may_stand_in home Any = true
may_stand_in home (Address object offset target) = is_at_home object target home

-- an address that is each node's own stands in what is said of the nodes of its segment
abbrev pub edges_are_at_home : Parts → Bool
edges_are_at_home parts = list_all (λ entry. list_all (λ edge. passes_at parts (may_stand_in entry.key) edge.value) (node_of entry.object).edges) parts.objects

-- it means one block
abbrev pub means_one : Target → Bool
means_one Region = true
means_one First = true
means_one Last = true
means_one Each = false

-- and nowhere else
abbrev pub may_be_held : Value → Bool
may_be_held (Const number size) = true
may_be_held (Number size) = true
may_be_held Any = true
may_be_held (Address object offset target) = means_one target

-- each register holds a value that is there
abbrev pub registers_hold_values : Parts → Bool
registers_hold_values parts = list_all (λ held. passes_at parts may_be_held held.value) parts.registers

-- each port is a value that is there
abbrev pub ports_are_values : Parts → Bool
ports_are_values parts = list_all (passes_at parts may_be_held) parts.ports

-- an address leads to a block of an object of the shape that has such a block
abbrev pub target_fits : Target → Shape → Bool
target_fits Region RegionShape = true
target_fits Region (Segment twofold head next prev back least next_value prev_value node) = false
target_fits First RegionShape = false
target_fits First (Segment twofold head next prev back least next_value prev_value node) = true
target_fits Last RegionShape = false
target_fits Last (Segment twofold head next prev back least next_value prev_value node) = twofold
target_fits Each RegionShape = false
target_fits Each (Segment twofold head next prev back least next_value prev_value node) = true

-- an address is that of an object that is there
abbrev pub leads_to_object : Parts → Value → Bool
leads_to_object parts (Const number size) = true
leads_to_object parts (Number size) = true
leads_to_object parts Any = true
leads_to_object parts (Address object offset target) =
    option_map_or (λ found. target_fits target found.shape) (object_at parts.objects object) false

abbrev pub addresses_lead_to_objects : Parts → Bool
addresses_lead_to_objects parts = list_all (λ entry. leads_to_object parts entry.value) parts.values

-- Variables and registers.

-- a variable's storage lives, and is not allocated
abbrev pub is_storage : Object → Bool
is_storage object = object.live && not (is_heap object.kind)

abbrev pub variables_have_storage : Parts → Bool
variables_have_storage parts = list_all (λ named. option_map_or is_storage (object_at parts.objects named.object) false) parts.variables

-- no two variables have one storage
abbrev pub storage_is_distinct : Parts → Bool
storage_is_distinct parts = are_distinct (map (λ named. named.object) parts.variables)

-- the variables ascend, so that none stands twice
abbrev pub variables_ascend : Parts → Bool
variables_ascend parts = are_ascending (map (λ named. named.variable) parts.variables)

-- so do the registers
abbrev pub registers_ascend : Parts → Bool
registers_ascend parts = are_ascending (map (λ held. held.register) parts.registers)

-- Objects.

-- no object has more than 65,536 bytes
abbrev pub objects_are_small : Parts → Bool
objects_are_small parts = list_all (λ entry. nat_le entry.object.size 65536) parts.objects

-- a live object has one class a byte
abbrev pub has_class_a_byte : Object → Bool
has_class_a_byte object = not object.live || nat_eq (length (node_of object).plane) object.size

abbrev pub planes_are_as_long : Parts → Bool
planes_are_as_long parts = list_all (λ entry. has_class_a_byte entry.object) parts.objects

-- nothing is said of the object's own bytes
abbrev pub says_nothing : List HasValue → List ℕ → Bool
says_nothing [] [] = true
says_nothing [] (class ∷ plane) = false
says_nothing (edge ∷ edges) plane = false

-- a dead object is a region, and nothing is said of its bytes
abbrev pub dead_objects_are_bare : Parts → Bool
dead_objects_are_bare parts =
    list_all (λ entry. entry.object.live || (is_region entry.object.shape && says_nothing entry.object.edges entry.object.plane)) parts.objects

-- a segment is live and allocated, and what is said of its bytes stands at its node
abbrev pub is_segment_storage : Object → Bool
is_segment_storage object = object.live && (is_heap object.kind && says_nothing object.edges object.plane)

abbrev pub segments_are_allocated : Parts → Bool
segments_are_allocated parts = list_all (λ entry. is_region entry.object.shape || is_segment_storage entry.object) parts.objects

-- Edges.

-- the range of an edge lies in an object of this size
abbrev pub lies_in : ℕ → HasValue → Bool
lies_in size edge = nat_le (edge.at + edge.size) size

abbrev pub edges_lie_inside : Parts → Bool
edges_lie_inside parts = list_all (λ entry. list_all (lies_in entry.object.size) (node_of entry.object).edges) parts.objects

-- the range of an edge ends before that of another begins
abbrev pub lies_before : HasValue → HasValue → Bool
lies_before one other = nat_le (one.at + one.size) other.at

-- each edge ends before each later one begins
abbrev pub are_in_order : List HasValue → Bool
are_in_order [] = true
are_in_order (first ∷ rest) = list_all (lies_before first) rest && are_in_order rest

-- edges stand in the order of their places, and no two of them share a byte
abbrev pub edges_are_in_order : Parts → Bool
edges_are_in_order parts = list_all (λ entry. are_in_order (node_of entry.object).edges) parts.objects

-- the value of an edge has its size
abbrev pub edge_has_size : Parts → HasValue → Bool
edge_has_size parts edge = passes_at parts (λ value. nat_eq (value_size value) edge.size) edge.value

abbrev pub edges_have_their_sizes : Parts → Bool
edges_have_their_sizes parts = list_all (λ entry. list_all (edge_has_size parts) (node_of entry.object).edges) parts.objects

-- the bytes of an edge have the class of its value
abbrev pub edge_has_class : Parts → List ℕ → HasValue → Bool
edge_has_class parts plane edge = passes_at parts (λ value. list_all (nat_eq (value_class value)) (take edge.size (drop edge.at plane))) edge.value

abbrev pub edges_have_their_classes : Parts → Bool
edges_have_their_classes parts = list_all (λ entry. list_all (edge_has_class parts (node_of entry.object).plane) (node_of entry.object).edges) parts.objects

-- no edge holds the constant 0; its range has class 0 instead
abbrev pub edges_are_not_zero : Parts → Bool
edges_are_not_zero parts = list_all (λ entry. list_all (λ edge. passes_at parts (λ value. not (is_zero value)) edge.value) (node_of entry.object).edges) parts.objects

-- Links.

-- links lie in the node
abbrev pub links_lie_inside : Parts → Bool
links_lie_inside parts = list_all (λ entry. list_all (lies_in entry.object.size) (link_edges entry.object.shape)) parts.objects

-- the link to the next node ends before the link back begins
abbrev pub links_are_in_order : Parts → Bool
links_are_in_order parts = list_all (λ entry. are_in_order (link_edges entry.object.shape)) parts.objects

-- the ranges of two edges share no byte
abbrev pub share_no_byte : HasValue → HasValue → Bool
share_no_byte one other = nat_le (one.at + one.size) other.at || nat_le (other.at + other.size) one.at

-- no two of these edges share a byte
abbrev pub are_disjoint : List HasValue → Bool
are_disjoint [] = true
are_disjoint (first ∷ rest) = list_all (share_no_byte first) rest && are_disjoint rest

-- no edge of the node holds a byte of a link
abbrev pub links_have_no_edge : Parts → Bool
links_have_no_edge parts = list_all (λ entry. list_all (λ link. list_all (share_no_byte link) (node_of entry.object).edges) (link_edges entry.object.shape)) parts.objects

-- the bytes of a link have class 2 in the node
abbrev pub link_is_any : List ℕ → HasValue → Bool
link_is_any plane link = list_all (nat_eq 2) (take link.size (drop link.at plane))

abbrev pub links_may_be_pointers : Parts → Bool
links_may_be_pointers parts = list_all (λ entry. list_all (link_is_any (node_of entry.object).plane) (link_edges entry.object.shape)) parts.objects

-- what lies behind or before a segment: a constant of eight bytes, or an address
abbrev pub is_outward : Value → Bool
is_outward (Const number size) = nat_eq size 8
is_outward (Number size) = false
is_outward Any = false
is_outward (Address object offset target) = means_one target

abbrev pub links_lead_on : Parts → Bool
links_lead_on parts = list_all (λ entry. list_all (λ link. passes_at parts is_outward link.value) (link_edges entry.object.shape)) parts.objects

-- the constant 0 of eight bytes
abbrev pub is_null : Value → Bool
is_null (Const number size) = nat_eq number 0 && nat_eq size 8
is_null (Number size) = false
is_null Any = false
is_null (Address object offset target) = false

-- links back lead into the node; where there are none, their fields are 0
abbrev pub back_fits : Parts → ℕ → Option Links → Bool
back_fits parts size None = true
back_fits parts size (Some links) =
    if links.twofold then nat_lt links.back size else (nat_eq links.prev 0 && (nat_eq links.back 0 && passes_at parts is_null links.prev_value))

abbrev pub links_back_fit : Parts → Bool
links_back_fit parts = list_all (λ entry. back_fits parts entry.object.size (links_in entry.object.shape)) parts.objects

-- Segments that may be empty.

-- ranks of the two ends of objects
pub record Ranks : Type 0 where
  pub first : ℕ → ℕ
  pub last : ℕ → ℕ

-- an end of this rank, at which this value stands, leads to no end of this rank or above
abbrev pub Falls : Ranks → ℕ → Option Value → Type 0
Falls ranks rank None = Unit {0}
Falls ranks rank (Some (Const number size)) = Unit {0}
Falls ranks rank (Some (Number size)) = Unit {0}
Falls ranks rank (Some Any) = Unit {0}
Falls ranks rank (Some (Address object offset Region)) = Unit {0}
Falls ranks rank (Some (Address object offset First)) = ranks.first object < rank
Falls ranks rank (Some (Address object offset Last)) = ranks.last object < rank
Falls ranks rank (Some (Address object offset Each)) = Unit {0}

-- Where a segment has no nodes, an address of its first node is what lies behind it, and one of its last node what lies before
-- it. Following such addresses through segments that may have none comes to an end: with each step the rank goes down.
pub record ComesToAnEnd (parts : Parts) : Type 0 where
  pub ranks : Ranks
  pub next : (key : ℕ) (object : Object) (links : Links) → object_at parts.objects key ≡ Some object → links_in object.shape ≡ Some links → links.least ≡ 0 →
      Falls ranks (ranks.first key) (value_at parts.values links.next_value)
  pub prev : (key : ℕ) (object : Object) (links : Links) → object_at parts.objects key ≡ Some object → links_in object.shape ≡ Some links → links.least ≡ 0 →
      Falls ranks (ranks.last key) (value_at parts.values links.prev_value)

-- Values.

abbrev pub values_are_sized : Parts → Bool
values_are_sized parts = list_all (λ entry. is_sized entry.value) parts.values

-- both are numbers of this size
abbrev pub are_numbers : Value → Value → ℕ → Bool
are_numbers one other size = is_number one size && is_number other size

-- two numbers of one size, 4 or 8, of which at most one is a constant
abbrev pub may_be_unequal : Value → Value → Bool
may_be_unequal one other = (are_numbers one other 4 || are_numbers one other 8) && not (is_constant one && is_constant other)

-- a pair is of two different values that may be unequal
abbrev pub is_unequal_pair : Parts → Pair → Bool
is_unequal_pair parts pair =
    not (nat_eq pair.left pair.right)
    && passes_at parts (λ one. passes_at parts (may_be_unequal one) pair.right) pair.left

abbrev pub pairs_may_be_unequal : Parts → Bool
pairs_may_be_unequal parts = list_all (is_unequal_pair parts) parts.unequal

-- two pairs are not of the same two values
abbrev pub differs_from : Pair → Pair → Bool
differs_from one other =
    not (nat_eq one.left other.left && nat_eq one.right other.right) && not (nat_eq one.left other.right && nat_eq one.right other.left)

-- no pair stands twice, in whatever order
abbrev pub are_different : List Pair → Bool
are_different [] = true
are_different (first ∷ rest) = list_all (differs_from first) rest && are_different rest

abbrev pub pairs_are_different : Parts → Bool
pairs_are_different parts = are_different parts.unequal

-- The whole.

-- all points of a graph but the last
pub record IsWellFormed (parts : Parts) : Type 0 where
  pub edges_hold_values : IsTrue (edges_hold_values parts)
  pub edges_are_at_home : IsTrue (edges_are_at_home parts)
  pub registers_hold_values : IsTrue (registers_hold_values parts)
  pub ports_are_values : IsTrue (ports_are_values parts)
  pub addresses_lead_to_objects : IsTrue (addresses_lead_to_objects parts)
  pub variables_have_storage : IsTrue (variables_have_storage parts)
  pub storage_is_distinct : IsTrue (storage_is_distinct parts)
  pub variables_ascend : IsTrue (variables_ascend parts)
  pub registers_ascend : IsTrue (registers_ascend parts)
  pub objects_are_small : IsTrue (objects_are_small parts)
  pub planes_are_as_long : IsTrue (planes_are_as_long parts)
  pub dead_objects_are_bare : IsTrue (dead_objects_are_bare parts)
  pub segments_are_allocated : IsTrue (segments_are_allocated parts)
  pub edges_lie_inside : IsTrue (edges_lie_inside parts)
  pub edges_are_in_order : IsTrue (edges_are_in_order parts)
  pub edges_have_their_sizes : IsTrue (edges_have_their_sizes parts)
  pub edges_have_their_classes : IsTrue (edges_have_their_classes parts)
  pub edges_are_not_zero : IsTrue (edges_are_not_zero parts)
  pub links_lie_inside : IsTrue (links_lie_inside parts)
  pub links_are_in_order : IsTrue (links_are_in_order parts)
  pub links_have_no_edge : IsTrue (links_have_no_edge parts)
  pub links_may_be_pointers : IsTrue (links_may_be_pointers parts)
  pub links_lead_on : IsTrue (links_lead_on parts)
  pub links_back_fit : IsTrue (links_back_fit parts)
  pub comes_to_an_end : ComesToAnEnd parts
  pub values_are_sized : IsTrue (values_are_sized parts)
  pub pairs_may_be_unequal : IsTrue (pairs_may_be_unequal parts)
  pub pairs_are_different : IsTrue (pairs_are_different parts)

-- for how many nodes an object of this shape counts: a segment for the least number that it stands for, and at least for one
abbrev pub nodes_of : Shape → ℕ
nodes_of RegionShape = 1
nodes_of (Segment twofold head next prev back least next_value prev_value node) = max 1 least

-- how many nodes there are, dead objects included
abbrev pub nodes : Parts → ℕ
nodes parts = sum_by (λ entry. nodes_of entry.object.shape) parts.objects

-- the last point: there are fewer than 2^30 nodes and fewer than 2^30 unequal pairs
abbrev pub is_within_limits : Parts → Bool
is_within_limits parts = nat_lt (nodes parts) (2 ^ 30) && nat_lt (length parts.unequal) (2 ^ 30)
