-- Which graphs are large: a call that is lent one may answer that it is too large.
use Rattle.std.specs.Prelude.{ℕ, Bool, false, ◌&&◌, ◌||◌, not, length, sum_by, nat_eq, nat_le, if◌then◌else◌}
use Rattle.std.specs.List.{list_any, filter}
use Rattle.graph.specs.declared.object.Object.{Object}
use Rattle.graph.specs.declared.value.Value.{Value}
use Rattle.graph.specs.declared.value.Value.TheVariants.{Const, Number, Any, Address}
use Rattle.graph.specs.declared.parts.Parts.{Parts}
use Rattle.graph.specs.Nodes.{node_of, link_edges}
use Rattle.graph.specs.WellFormed.{nodes_of, passes_at}

-- for how many live nodes an object counts
abbrev pub live_nodes_of : Object → ℕ
live_nodes_of object = if object.live then nodes_of object.shape else 0

abbrev pub live_nodes : Parts → ℕ
live_nodes parts = sum_by (λ entry. live_nodes_of entry.object) parts.objects

-- a value is an address of the object with this key
abbrev pub leads_to : ℕ → Value → Bool
leads_to key (Const number size) = false
leads_to key (Number size) = false
leads_to key Any = false
leads_to key (Address object offset target) = nat_eq object key

-- an edge of an object, or of its nodes, holds such an address, or it lies beyond an end of it
abbrev pub holds_address : Parts → ℕ → Object → Bool
holds_address parts key object =
    list_any (λ edge. passes_at parts (leads_to key) edge.value) (node_of object).edges
    || list_any (λ link. passes_at parts (leads_to key) link.value) (link_edges object.shape)

-- an edge, an outward link, a register or a port holds an address of the object with this key
abbrev pub is_addressed : Parts → ℕ → Bool
is_addressed parts key =
    list_any (λ entry. holds_address parts key entry.object) parts.objects
    || (list_any (λ held. passes_at parts (leads_to key) held.value) parts.registers || list_any (passes_at parts (leads_to key)) parts.ports)

-- how many dead objects are addressed so
abbrev pub addressed_dead : Parts → ℕ
addressed_dead parts = length (filter (λ entry. not entry.object.live && is_addressed parts entry.key) parts.objects)

-- there are so many live nodes, dead objects that are addressed, or unequal pairs
abbrev pub is_large : ℕ → Parts → Bool
is_large bound parts = nat_le bound (live_nodes parts) || (nat_le bound (addressed_dead parts) || nat_le bound (length parts.unequal))
