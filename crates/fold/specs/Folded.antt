-- A graph in which two neighbours are one segment.
use Rattle.std.specs.Prelude.{ℕ, ◌+◌, not, List, [], ◌∷◌, ◌++◌, map, length, nat_eq, Option, None, Some, ℤ, if◌then◌else◌}
use Rattle.std.specs.List.{filter}
use Rattle.planes.specs.Classes.{filled, highest}
use Rattle.fold.specs.declared.fold.Fold.{Fold}
use Rattle.fold.specs.declared.fold.Standing.{Standing}
use Rattle.fold.specs.declared.fold.Standing.TheVariants.{Same, Own, Apart, Barred}
use Rattle.graph.specs.declared.edges.HasValue.{HasValue}
use Rattle.graph.specs.declared.object.Object.{Object}
use Rattle.graph.specs.declared.object.Shape.{Shape}
use Rattle.graph.specs.declared.object.Shape.TheVariants.{Region as RegionShape, Segment}
use Rattle.graph.specs.declared.template.Node.{Node}
use Rattle.graph.specs.declared.value.Target.{Target}
use Rattle.graph.specs.declared.value.Target.TheVariants.{Region, First, Last, Each}
use Rattle.graph.specs.declared.value.Value.{Value}
use Rattle.graph.specs.declared.value.Value.TheVariants.{Const, Number, Any, Address}
use Rattle.graph.specs.declared.parts.KeyedValue.{KeyedValue}
use Rattle.graph.specs.declared.parts.Parts.{Parts}
use Rattle.graph.specs.Maps.{object_at}
use Rattle.graph.specs.Nodes.{node_of}
use Rattle.graph.specs.Renaming.{values_from}
use Rattle.changes.specs.Parts.{replaced}
use Rattle.fold.specs.Linked.{onward, backward}
use Rattle.fold.specs.Standing.{others, standing}

-- The node.

-- an edge of the first neighbour stays where its value is the same in both. An own address is that of each node, a value more, whose key is
-- `fresh`. The edges of numbers that differ go
abbrev pub joined_edge : Standing → ℕ → HasValue → List HasValue → List HasValue
joined_edge Same fresh edge rest = edge ∷ rest
joined_edge (Own offset) fresh edge rest = record edge { value = fresh } ∷ rest
joined_edge Apart fresh edge rest = rest
joined_edge Barred fresh edge rest = rest

abbrev pub fresh_behind : Standing → ℕ → ℕ
fresh_behind Same fresh = fresh
fresh_behind (Own offset) fresh = fresh + 1
fresh_behind Apart fresh = fresh
fresh_behind Barred fresh = fresh

-- the edges of each node; own addresses have the keys from `fresh` on, in the order of their places
abbrev pub joined : (HasValue → Standing) → ℕ → List HasValue → List HasValue
joined stands fresh [] = []
joined stands fresh (edge ∷ rest) = joined_edge (stands edge) fresh edge (joined stands (fresh_behind (stands edge) fresh) rest)

abbrev pub with_own : ℕ → Standing → List Value → List Value
with_own key Same rest = rest
with_own key (Own offset) rest = Address key offset Each ∷ rest
with_own key Apart rest = rest
with_own key Barred rest = rest

-- the own addresses, in the order of their places
abbrev pub own_addresses : ℕ → (HasValue → Standing) → List HasValue → List Value
own_addresses key stands [] = []
own_addresses key stands (edge ∷ rest) = with_own key (stands edge) (own_addresses key stands rest)

-- class 2 at the links
abbrev pub linked_plane : Fold → List ℕ → List ℕ
linked_plane fold plane = if fold.twofold then filled (filled plane fold.next 8 2) fold.prev 8 2 else filled plane fold.next 8 2

-- the greater class of each byte, and class 2 at the links
abbrev pub joined_plane : Fold → List ℕ → List ℕ → List ℕ
joined_plane fold before behind = linked_plane fold (highest before behind)

-- how an edge of the first neighbour stands in the second one
abbrev pub stands_in : Parts → Fold → Object → HasValue → Standing
stands_in parts fold other = standing parts fold (others fold (node_of other).edges)

abbrev pub joined_node : Parts → Fold → Object → Object → Node
joined_node parts fold one other = record {
  edges = joined (stands_in parts fold other) (length parts.values + 1) (others fold (node_of one).edges);
  plane = joined_plane fold (node_of one).plane (node_of other).plane;
}

-- The segment.

-- for how many nodes an object stands at least
abbrev pub least_of : Shape → ℕ
least_of RegionShape = 1
least_of (Segment twofold head next prev back least next_value prev_value node) = least

abbrev pub segment_of : Fold → ℕ → ℕ → ℕ → Node → Shape
segment_of fold least next_value prev_value node = Segment fold.twofold fold.head fold.next fold.prev fold.back least next_value prev_value node

-- one segment in place of the two, with the least numbers of both added, and with these links
abbrev pub joined_object : Parts → Fold → Object → Object → ℕ → ℕ → Object
joined_object parts fold one other next_value prev_value = record one {
  shape = segment_of fold (least_of one.shape + least_of other.shape) next_value prev_value (joined_node parts fold one other);
  edges = [];
  plane = [];
}

-- The values.

-- an address of the first neighbour is one of the first node of the whole. That of its last node goes
abbrev pub of_first : Fold → ℤ → Target → Option Value
of_first fold offset Region = Some (Address fold.first offset First)
of_first fold offset First = Some (Address fold.first offset First)
of_first fold offset Last = None
of_first fold offset Each = Some (Address fold.first offset Each)

-- an address of the last node of the second neighbour is one of the last node of the whole, where nodes are linked both ways. Else it goes, and
-- so does that of its first node
abbrev pub of_second : Fold → ℤ → Target → Option Value
of_second fold offset Region = if fold.twofold then Some (Address fold.first offset Last) else None
of_second fold offset First = None
of_second fold offset Last = if fold.twofold then Some (Address fold.first offset Last) else None
of_second fold offset Each = Some (Address fold.first offset Each)

-- what a value becomes; one that goes stood for a word that nothing but the links holds
abbrev pub folded_value : Fold → Value → Option Value
folded_value fold (Const number size) = Some (Const number size)
folded_value fold (Number size) = Some (Number size)
folded_value fold Any = Some Any
folded_value fold (Address object offset target) =
    if nat_eq object fold.first then of_first fold offset target
    else if nat_eq object fold.second then of_second fold offset target
    else Some (Address object offset target)

abbrev pub with_value_if : ℕ → Option Value → List KeyedValue → List KeyedValue
with_value_if key None rest = rest
with_value_if key (Some value) rest = record { key = key; value = value } ∷ rest

abbrev pub folded_values : Fold → List KeyedValue → List KeyedValue
folded_values fold [] = []
folded_values fold (entry ∷ rest) = with_value_if entry.key (folded_value fold entry.value) (folded_values fold rest)

-- The whole.

-- the segment has the key of the first neighbour, and the second one goes. Values more, behind all others, are 0, to which links of zeros lead and
-- the links back of nodes that are linked one way, and the own addresses
abbrev pub folded_by : Parts → Fold → Object → Object → ℕ → ℕ → Parts
folded_by parts fold one other next_value prev_value = record parts {
  objects = filter (λ entry. not (nat_eq entry.key fold.second)) (map (replaced fold.first (joined_object parts fold one other next_value prev_value)) parts.objects);
  values = folded_values fold parts.values
      ++ values_from (length parts.values) (Const 0 8 ∷ own_addresses fold.first (stands_in parts fold other) (others fold (node_of one).edges));
}

abbrev pub folded_links : Parts → Fold → Object → Object → Option ℕ → Option ℕ → Parts
folded_links parts fold one other None backward = parts
folded_links parts fold one other (Some next_value) None = parts
folded_links parts fold one other (Some next_value) (Some prev_value) = folded_by parts fold one other next_value prev_value

abbrev pub folded_two : Parts → Fold → Option Object → Option Object → Parts
folded_two parts fold None other = parts
folded_two parts fold (Some one) None = parts
folded_two parts fold (Some one) (Some other) = folded_links parts fold one other (onward (length parts.values) fold other) (backward (length parts.values) fold one)

-- the second neighbour's link on is that of the whole, and the first one's link back
abbrev pub folded : Fold → Parts → Parts
folded fold parts = folded_two parts fold (object_at parts.objects fold.first) (object_at parts.objects fold.second)
