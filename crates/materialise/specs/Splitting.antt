-- What a node that becomes a region, and what is left of its segment, hold, in the words of lists.
use Rattle.std.specs.Prelude.{ℕ, ◌+◌, List, [], ◌∷◌, map, nat_eq, pos, if◌then◌else◌}
use Rattle.std.specs.List.{list_any}
use Rattle.graph.specs.declared.edges.HasValue.{HasValue}
use Rattle.graph.specs.declared.object.Links.{Links}
use Rattle.graph.specs.declared.template.Node.{Node}
use Rattle.graph.specs.declared.value.Target.TheVariants.{Region, First}
use Rattle.graph.specs.declared.value.Value.{Value}
use Rattle.graph.specs.declared.value.Value.TheVariants.{Address}
use Rattle.graph.specs.declared.parts.KeyedObject.{KeyedObject}
use Rattle.graph.specs.declared.parts.KeyedValue.{KeyedValue}
use Rattle.graph.specs.Renaming.{place_among}
use Rattle.materialise.specs.SplitFirst.{with_link, with_link_if, rest_behind, first_value}

-- in place of the value with a key one of the values from a key on, if it is among these entries
abbrev pub alone_at : List KeyedValue → ℕ → ℕ → ℕ
alone_at own from at = if list_any (nat_eq at) (map (λ entry. entry.key) own) then from + place_among (map (λ entry. entry.key) own) at else at

abbrev pub alone_edge : List KeyedValue → ℕ → HasValue → HasValue
alone_edge own from edge = record edge { value = alone_at own from edge.value }

-- the rest in place of the segment with a key
abbrev pub rest_entry : ℕ → ℕ → KeyedObject → KeyedObject
rest_entry key before entry = record { key = entry.key; object = if nat_eq entry.key key then record entry.object { shape = rest_behind before entry.object.shape } else entry.object }

-- what becomes of a value
abbrev pub first_entry : ℕ → ℕ → KeyedValue → KeyedValue
first_entry region key entry = record { key = entry.key; value = first_value region key entry.value }

-- what is said of bytes, as a region holds it
abbrev pub alone_node : List KeyedValue → ℕ → Node → Node
alone_node own from node = record { edges = map (alone_edge own from) node.edges; plane = node.plane }

-- with the link to the rest, whose address is the value with a key
abbrev pub linked_node : ℕ → ℕ → Links → Node → Node
linked_node key owned links node = with_link (Address key (pos links.head) First) (record { at = links.next; size = 8; value = owned }) node

-- and with the link back, where nodes have one
abbrev pub first_node_of : ℕ → ℕ → Links → Value → Node → Node
first_node_of key owned links before node = with_link_if links.twofold before (record { at = links.prev; size = 8; value = links.prev_value }) (linked_node key owned links node)

-- the addresses to which the links between a node that is split off and the rest lead
abbrev pub ends_of_split : ℕ → ℕ → Links → List Value
ends_of_split region key links = Address key (pos links.head) First ∷ (if links.twofold then Address region (pos links.back) Region ∷ [] else [])
