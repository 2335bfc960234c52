-- Where in a graph chains of stored pointers lead on.
--
-- An object has two places in a list as long as twice the objects: its key is that of its first end, and that of its last end stands
-- as far behind all first ends. A region has its first end alone. Of a segment that has nodes both ends lead to all of them; of one
-- that may have none an end leads to what lies beyond it.
use Rattle.std.specs.Prelude.{ℕ, ◌+◌, ◌-◌, Bool, true, false, List, [], ◌∷◌, ◌++◌, map, length, Option, None, Some, nat_eq, nat_lt, if◌then◌else◌}
use Rattle.graph.specs.declared.edges.HasValue.{HasValue}
use Rattle.graph.specs.declared.object.Object.{Object}
use Rattle.graph.specs.declared.object.Shape.{Shape}
use Rattle.graph.specs.declared.object.Shape.TheVariants.{Region as RegionShape, Segment}
use Rattle.graph.specs.declared.template.Node.{Node}
use Rattle.graph.specs.declared.value.Target.{Target}
use Rattle.graph.specs.declared.value.Target.TheVariants.{Region, First, Last, Each}
use Rattle.graph.specs.declared.value.Value.{Value}
use Rattle.graph.specs.declared.value.Value.TheVariants.{Const, Number, Any, Address}
use Rattle.graph.specs.declared.parts.Named.{Named}
use Rattle.graph.specs.declared.parts.Held.{Held}
use Rattle.graph.specs.declared.parts.Parts.{Parts}
use Rattle.graph.specs.Maps.{object_at, value_at}
use Rattle.graph.specs.Nodes.{own_node}

-- the place of the end to which an address leads
abbrev pub target_places : ℕ → ℕ → Target → List ℕ
target_places count object Region = object ∷ []
target_places count object First = object ∷ []
target_places count object Last = (count + object) ∷ []
target_places count object Each = []

abbrev pub value_places : ℕ → Option Value → List ℕ
value_places count None = []
value_places count (Some (Const number size)) = []
value_places count (Some (Number size)) = []
value_places count (Some Any) = []
value_places count (Some (Address object offset target)) = target_places count object target

-- the places of the ends to which values lead
abbrev pub places_of : Parts → List ℕ → List ℕ
places_of parts [] = []
places_of parts (value ∷ rest) = value_places (length parts.objects) (value_at parts.values value) ++ places_of parts rest

abbrev pub edge_values : List HasValue → List ℕ
edge_values edges = map (λ (edge : HasValue). edge.value) edges

-- the values that are held where an end leads: in a region; in the nodes of a segment and beyond both its ends; or beyond this end of
-- a segment that may have no nodes
abbrev pub values_behind : Shape → Node → Bool → List ℕ
values_behind RegionShape own last = edge_values own.edges
values_behind (Segment twofold head next prev back least next_value prev_value node) own last =
    if nat_eq least 0 then (if last then prev_value else next_value) ∷ [] else edge_values node.edges ++ next_value ∷ prev_value ∷ []

abbrev pub places_in : Parts → Option Object → Bool → List ℕ
places_in parts None last = []
places_in parts (Some object) last = places_of parts (values_behind object.shape (own_node object) last)

-- the places of the ends to which the end at a place leads on
abbrev pub places_behind : Parts → ℕ → List ℕ
places_behind parts place =
    if nat_lt place (length parts.objects) then places_in parts (object_at parts.objects place) false
    else places_in parts (object_at parts.objects (place - length parts.objects)) true

-- those where chains start: at variables, registers and ports
abbrev pub first_places : Parts → List ℕ
first_places parts =
    map (λ (named : Named). named.object) parts.variables
    ++ (places_of parts (map (λ (held : Held). held.value) parts.registers) ++ places_of parts parts.ports)
