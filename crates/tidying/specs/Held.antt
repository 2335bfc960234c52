-- Which values something of a graph holds, and which values and objects stay where what nothing holds is taken out.
use Rattle.std.specs.Prelude.{ℕ, Bool, false, ◌||◌, ◌&&◌, nat_eq}
use Rattle.std.specs.List.{list_any}
use Rattle.graph.specs.declared.edges.HasValue.{HasValue}
use Rattle.graph.specs.declared.object.Object.{Object}
use Rattle.graph.specs.declared.object.Shape.{Shape}
use Rattle.graph.specs.declared.object.Shape.TheVariants.{Region, Segment}
use Rattle.graph.specs.declared.parts.Pair.{Pair}
use Rattle.graph.specs.declared.parts.Parts.{Parts}
use Rattle.graph.specs.Large.{leads_to}
use Rattle.graph.specs.Nodes.{node_of}
use Rattle.graph.specs.Sizes.{is_constant}
use Rattle.graph.specs.WellFormed.{passes_at}

-- a link beyond a segment holds the value
abbrev pub is_linked : ℕ → Shape → Bool
is_linked value Region = false
is_linked value (Segment twofold head next prev back least next_value prev_value node) = nat_eq next_value value || nat_eq prev_value value

-- an edge of an object, or of its nodes, holds the value, or a link does
abbrev pub is_stored : ℕ → Object → Bool
is_stored value object = list_any (λ (edge : HasValue). nat_eq edge.value value) (node_of object).edges || is_linked value object.shape

-- an edge, a link, a register or a port holds the value
abbrev pub is_held : Parts → ℕ → Bool
is_held parts value =
    list_any (λ entry. is_stored value entry.object) parts.objects
    || (list_any (λ held. nat_eq held.value value) parts.registers || list_any (λ port. nat_eq port value) parts.ports)

-- the value makes a pair with one that is held
abbrev pub tells_of : Parts → ℕ → Pair → Bool
tells_of parts value pair = (nat_eq pair.left value && is_held parts pair.right) || (nat_eq pair.right value && is_held parts pair.left)

-- a value stays that is held, and a constant that a held value is told apart from
abbrev pub stays : Parts → ℕ → Bool
stays parts value = is_held parts value || (passes_at parts is_constant value && list_any (tells_of parts value) parts.unequal)

-- an object stays that lives, or of which an address stays
abbrev pub object_stays : Parts → ℕ → Bool
object_stays parts key =
    list_any (λ entry. entry.object.live && nat_eq entry.key key) parts.objects
    || list_any (λ entry. stays parts entry.key && leads_to key entry.value) parts.values
