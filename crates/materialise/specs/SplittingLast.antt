-- What a last node that becomes a region, and what is left of its segment, hold, in the words of lists.
use Rattle.std.specs.Prelude.{ℕ, List, [], ◌∷◌, nat_eq, pos, if◌then◌else◌}
use Rattle.graph.specs.declared.object.Links.{Links}
use Rattle.graph.specs.declared.template.Node.{Node}
use Rattle.graph.specs.declared.value.Target.TheVariants.{Region, Last}
use Rattle.graph.specs.declared.value.Value.{Value}
use Rattle.graph.specs.declared.value.Value.TheVariants.{Address}
use Rattle.graph.specs.declared.parts.KeyedObject.{KeyedObject}
use Rattle.graph.specs.declared.parts.KeyedValue.{KeyedValue}
use Rattle.materialise.specs.SplitFirst.{with_link}
use Rattle.materialise.specs.SplitLast.{rest_before, last_value}

-- the rest in place of the segment with a key
abbrev pub rest_before_entry : ℕ → ℕ → KeyedObject → KeyedObject
rest_before_entry key behind entry = record { key = entry.key; object = if nat_eq entry.key key then record entry.object { shape = rest_before behind entry.object.shape } else entry.object }

-- what becomes of a value
abbrev pub last_entry : ℕ → ℕ → KeyedValue → KeyedValue
last_entry region key entry = record { key = entry.key; value = last_value region key entry.value }

-- what is said of bytes, with the link back to the rest, whose address is the value with a key
abbrev pub back_linked_node : ℕ → ℕ → Links → Node → Node
back_linked_node key owned links node = with_link (Address key (pos links.back) Last) (record { at = links.prev; size = 8; value = owned }) node

-- and with the link to what lay behind the segment
abbrev pub last_node_of : ℕ → ℕ → Links → Value → Node → Node
last_node_of key owned links behind node = with_link behind (record { at = links.next; size = 8; value = links.next_value }) (back_linked_node key owned links node)

-- the addresses to which the links between a node that is split off and the rest lead
abbrev pub ends_of_last : ℕ → ℕ → Links → List Value
ends_of_last region key links = Address key (pos links.back) Last ∷ Address region (pos links.head) Region ∷ []
