-- What is seen at once of two graphs, without a pairing: where one covers the other, the same variables and registers stand in both, and
-- the constants, addresses and classes of the wider one are met in the other one.
use Rattle.std.specs.Prelude.{ℕ, Bool, true, false, ◌&&◌, List, [], ◌∷◌, length, filter, nat_eq, if◌then◌else◌, Option, None, Some}
use Rattle.std.specs.List.{list_all}
use Rattle.planes.specs.Lanes.{are_at_most}
use Rattle.graph.specs.declared.edges.HasValue.{HasValue}
use Rattle.graph.specs.declared.object.Object.{Object}
use Rattle.graph.specs.declared.parts.Held.{Held}
use Rattle.graph.specs.declared.parts.Named.{Named}
use Rattle.graph.specs.declared.parts.Parts.{Parts}
use Rattle.graph.specs.declared.value.Value.{Value}
use Rattle.graph.specs.declared.value.Value.TheVariants.{Const, Number, Any, Address}
use Rattle.graph.specs.Meaning.{Maps, maps_of}
use Rattle.graph.specs.Nodes.{node_of}
use Rattle.cover.specs.declared.content.Content.{Content}
use Rattle.cover.specs.declared.content.Content.TheVariants.{Fixed, Leads, Kept}
use Rattle.cover.specs.Covers.{content, held_in}

-- this constant is held
abbrev pub is_fixed : ℕ → ℕ → Option Content → Bool
is_fixed number size None = false
is_fixed number size (Some (Fixed other other_size)) = nat_eq other number && nat_eq other_size size
is_fixed number size (Some (Leads object offset target)) = false
is_fixed number size (Some (Kept key)) = false

-- an address is held
abbrev pub is_pointer : Option Content → Bool
is_pointer None = false
is_pointer (Some (Fixed number size)) = false
is_pointer (Some (Leads object offset target)) = true
is_pointer (Some (Kept key)) = false

-- a value of the wider graph may be paired with what is held: a constant with itself, an address with an address. Of other values
-- nothing is asked
abbrev pub may_fit : Option Value → Option Content → Bool
may_fit None held = true
may_fit (Some (Const number size)) held = is_fixed number size held
may_fit (Some (Number size)) held = true
may_fit (Some Any) held = true
may_fit (Some (Address object offset target)) held = is_pointer held

-- so may the value of each of these edges with what the other object holds there
abbrev pub are_met : Maps → Maps → Object → List HasValue → Bool
are_met wide narrow other edges = list_all (λ edge. may_fit (wide.values edge.value) (held_in narrow (node_of other) edge.at edge.size)) edges

-- two live objects may be paired: no byte of the other one has a greater class, and the edges are met
abbrev pub may_be_paired : Maps → Maps → Option Object → Option Object → Bool
may_be_paired wide narrow None other = false
may_be_paired wide narrow (Some one) None = false
may_be_paired wide narrow (Some one) (Some other) = are_at_most (node_of other).plane (node_of one).plane && are_met wide narrow other (node_of one).edges

-- entries of the same numbers stand in both lists, in one order, and pass the test in pairs
abbrev pub agree : {Entry : Type 0} → (Entry → ℕ) → (Entry → Entry → Bool) → List Entry → List Entry → Bool
agree number test [] [] = true
agree number test [] (other ∷ others) = false
agree number test (one ∷ ones) [] = false
agree number test (one ∷ ones) (other ∷ others) = nat_eq (number one) (number other) && (test one other && agree number test ones others)

-- the same variables are named, and their objects may be paired
abbrev pub variables_agree : Maps → Maps → List Named → List Named → Bool
variables_agree wide narrow ones others = agree (λ named. named.variable) (λ one other. may_be_paired wide narrow (wide.objects one.object) (narrow.objects other.object)) ones others

-- the same registers hold something, and their values may be paired
abbrev pub registers_agree : Maps → Maps → List Held → List Held → Bool
registers_agree wide narrow ones others = agree (λ held. held.register) (λ one other. may_fit (wide.values one.value) (Some (content narrow other.value))) ones others

-- nothing is seen at once that keeps the wider graph from covering the other one
abbrev pub may_cover : Parts → Parts → Bool
may_cover wide narrow =
    registers_agree (maps_of wide) (maps_of narrow) wide.registers narrow.registers
    && variables_agree (maps_of wide) (maps_of narrow) wide.variables narrow.variables

-- an object that lives counts for one
abbrev pub one_if_live : Option Object → ℕ
one_if_live None = 0
one_if_live (Some object) = if object.live then 1 else 0

-- how many objects live
abbrev pub live_count : Parts → ℕ
live_count parts = length (filter (λ entry. entry.object.live) parts.objects)
