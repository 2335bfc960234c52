-- What an object holds at the places of links.
use Rattle.std.specs.Prelude.{ℕ, ◌+◌, Bool, true, false, ◌&&◌, not, List, [], ◌∷◌, length, take, drop, nat_eq, nat_le, Option, None, Some, pos, if◌then◌else◌}
use Rattle.std.specs.List.{list_all}
use Rattle.std.specs.Ordering.{int_eq}
use Rattle.bytes_core.specs.Release.{is_heap}
use Rattle.fold.specs.declared.fold.Fold.{Fold}
use Rattle.graph.specs.declared.edges.HasValue.{HasValue}
use Rattle.graph.specs.declared.object.Object.{Object}
use Rattle.graph.specs.declared.object.Shape.{Shape}
use Rattle.graph.specs.declared.object.Shape.TheVariants.{Region as RegionShape, Segment}
use Rattle.graph.specs.declared.value.Target.{Target}
use Rattle.graph.specs.declared.value.Target.TheVariants.{Region, First, Last, Each}
use Rattle.graph.specs.declared.value.Value.{Value}
use Rattle.graph.specs.declared.value.Value.TheVariants.{Const, Number, Any, Address}

-- the key of the value that the range of an edge holds
abbrev pub key_in : ℕ → ℕ → List HasValue → Option ℕ
key_in at size [] = None
key_in at size (edge ∷ rest) = if nat_eq edge.at at && nat_eq edge.size size then Some edge.value else key_in at size rest

-- eight bytes are there, and are 0
abbrev pub are_zeros : ℕ → List ℕ → Bool
are_zeros at plane = nat_le (at + 8) (length plane) && list_all (nat_eq 0) (take 8 (drop at plane))

abbrev pub or_null : ℕ → Bool → Option ℕ → Option ℕ
or_null null zeros None = if zeros then Some null else None
or_null null zeros (Some key) = Some key

-- the key of what a region holds as a link: the value of an edge, or 0, whose key is `null`
abbrev pub link_in : ℕ → ℕ → List HasValue → List ℕ → Option ℕ
link_in null at edges plane = or_null null (are_zeros at plane) (key_in at 8 edges)

-- the key of what lies behind an object: a region holds it, and the last node of a segment does
abbrev pub onward_in : ℕ → ℕ → Shape → List HasValue → List ℕ → Option ℕ
onward_in null place RegionShape edges plane = link_in null place edges plane
onward_in null place (Segment twofold head next prev back least next_value prev_value node) edges plane = Some next_value

abbrev pub onward : ℕ → Fold → Object → Option ℕ
onward null fold object = onward_in null fold.next object.shape object.edges object.plane

-- the key of what lies before it; where nodes are linked one way it is 0
abbrev pub backward_in : ℕ → ℕ → Shape → List HasValue → List ℕ → Option ℕ
backward_in null place RegionShape edges plane = link_in null place edges plane
backward_in null place (Segment twofold head next prev back least next_value prev_value node) edges plane = Some prev_value

abbrev pub backward : ℕ → Fold → Object → Option ℕ
backward null fold object = if fold.twofold then backward_in null fold.prev object.shape object.edges object.plane else Some null

-- an address means the first node of an object, or its one block
abbrev pub is_first : Target → Bool
is_first Region = true
is_first First = true
is_first Last = false
is_first Each = false

-- an address means the last node of an object, or its one block
abbrev pub is_last : Target → Bool
is_last Region = true
is_last First = false
is_last Last = true
is_last Each = false

-- a value is the address of the first node of the object with a key, at a place
abbrev pub leads_on : ℕ → ℕ → Value → Bool
leads_on key place (Const number size) = false
leads_on key place (Number size) = false
leads_on key place Any = false
leads_on key place (Address object offset target) = nat_eq object key && (int_eq offset (pos place) && is_first target)

-- and that of its last node
abbrev pub leads_back : ℕ → ℕ → Value → Bool
leads_back key place (Const number size) = false
leads_back key place (Number size) = false
leads_back key place Any = false
leads_back key place (Address object offset target) = nat_eq object key && (int_eq offset (pos place) && is_last target)

-- both are true, or both false
abbrev pub are_alike : Bool → Bool → Bool
are_alike one other = if one then other else not other

-- a segment has the direction and the places of the fold
abbrev pub has_places : Fold → Shape → Bool
has_places fold RegionShape = true
has_places fold (Segment twofold head next prev back least next_value prev_value node) =
    are_alike twofold fold.twofold && (nat_eq head fold.head && (nat_eq next fold.next && (nat_eq prev fold.prev && nat_eq back fold.back)))

-- an object is live and allocated, and has the places of the fold where it is a segment
abbrev pub is_list : Fold → Object → Bool
is_list fold object = object.live && (is_heap object.kind && has_places fold object.shape)
