-- Which objects beside two neighbours hold an address of one of them.
use Rattle.std.specs.Prelude.{ℕ, Bool, false, ◌&&◌, ◌||◌, not, length, nat_eq, Option, None, Some, pos}
use Rattle.std.specs.List.{list_any}
use Rattle.std.specs.Ordering.{int_eq}
use Rattle.fold.specs.declared.fold.Fold.{Fold}
use Rattle.graph.specs.declared.object.Object.{Object}
use Rattle.graph.specs.declared.value.Value.{Value}
use Rattle.graph.specs.declared.value.Value.TheVariants.{Const, Number, Any, Address}
use Rattle.graph.specs.declared.parts.Parts.{Parts}
use Rattle.graph.specs.Large.{leads_to}
use Rattle.graph.specs.Nodes.{is_region, node_of}
use Rattle.graph.specs.WellFormed.{passes_at}
use Rattle.fold.specs.Linked.{onward, backward}

-- an address has this offset
abbrev pub leads_at : ℕ → Value → Bool
leads_at place (Const number size) = false
leads_at place (Number size) = false
leads_at place Any = false
leads_at place (Address object offset target) = int_eq offset (pos place)

-- the object at a key is the one that an address is of
abbrev pub is_home_of : ℕ → Value → Bool
is_home_of home (Const number size) = false
is_home_of home (Number size) = false
is_home_of home Any = false
is_home_of home (Address object offset target) = nat_eq object home

abbrev pub is_near : Parts → Option ℕ → ℕ → Bool
is_near parts None home = false
is_near parts (Some link) home = passes_at parts (is_home_of home) link

-- an object at the key `home` holds an address of the one at `key`, other than a list's link: that is the address at `place`, in the object to which
-- `link` leads
abbrev pub is_third : ℕ → Bool → ℕ → Value → Bool
is_third key near place value = leads_to key value && not (near && leads_at place value)

abbrev pub is_either : Fold → ℕ → Bool
is_either fold key = nat_eq key fold.first || nat_eq key fold.second

abbrev pub holds_third : Parts → Fold → ℕ → Option ℕ → ℕ → ℕ → Object → Bool
holds_third parts fold key link place home object =
    not (is_either fold home) && list_any (λ edge. passes_at parts (is_third key (is_near parts link home) place) edge.value) (node_of object).edges

-- a register, a port or an object that is none of the two holds an address of the object at `key`
abbrev pub is_held : Parts → Fold → ℕ → Option ℕ → ℕ → Bool
is_held parts fold key link place =
    list_any (λ held. passes_at parts (leads_to key) held.value) parts.registers
    || (list_any (passes_at parts (leads_to key)) parts.ports || list_any (λ entry. holds_third parts fold key link place entry.key entry.object) parts.objects)

-- where nodes are linked both ways, at most one of two regions is held so: else who is next to whom is lost. The node before the first one holds its
-- address at `head`, and the node behind the second one its address at `back`
abbrev pub is_one_free : Parts → Fold → Object → Object → Bool
is_one_free parts fold one other =
    not fold.twofold
    || (not (is_region one.shape)
    || (not (is_region other.shape)
    || (not (is_held parts fold fold.first (backward (length parts.values) fold one) fold.head) || not (is_held parts fold fold.second (onward (length parts.values) fold other) fold.back))))
