-- How the values of one neighbour stand in the other one.
use Rattle.std.specs.Prelude.{ℕ, Bool, true, false, ◌&&◌, ◌||◌, not, List, nat_eq, Option, None, Some, is_some, ℤ, if◌then◌else◌}
use Rattle.std.specs.List.{filter, list_all}
use Rattle.std.specs.Ordering.{int_eq}
use Rattle.fold.specs.declared.fold.Fold.{Fold}
use Rattle.fold.specs.declared.fold.Standing.{Standing}
use Rattle.fold.specs.declared.fold.Standing.TheVariants.{Same, Own, Apart, Barred}
use Rattle.graph.specs.declared.edges.HasValue.{HasValue}
use Rattle.graph.specs.declared.value.Target.{Target}
use Rattle.graph.specs.declared.value.Target.TheVariants.{Region, First, Last, Each}
use Rattle.graph.specs.declared.value.Value.{Value}
use Rattle.graph.specs.declared.value.Value.TheVariants.{Const, Number, Any, Address}
use Rattle.graph.specs.declared.parts.Parts.{Parts}
use Rattle.graph.specs.Maps.{value_at}
use Rattle.graph.specs.WellFormed.{may_be_held, passes_at}
use Rattle.fold.specs.Linked.{key_in}

-- the place is one of a link
abbrev pub is_link_place : Fold → ℕ → Bool
is_link_place fold at = nat_eq at fold.next || (fold.twofold && nat_eq at fold.prev)

-- the edges that are no links
abbrev pub others : Fold → List HasValue → List HasValue
others fold edges = filter (λ edge. not (is_link_place fold edge.at)) edges

abbrev pub is_plain : Value → Bool
is_plain (Const number size) = true
is_plain (Number size) = true
is_plain Any = false
is_plain (Address object offset target) = false

abbrev pub is_same_target : Target → Target → Bool
is_same_target Region Region = true
is_same_target Region First = false
is_same_target Region Last = false
is_same_target Region Each = false
is_same_target First Region = false
is_same_target First First = true
is_same_target First Last = false
is_same_target First Each = false
is_same_target Last Region = false
is_same_target Last First = false
is_same_target Last Last = true
is_same_target Last Each = false
is_same_target Each Region = false
is_same_target Each First = false
is_same_target Each Last = false
is_same_target Each Each = false

-- a value is this constant
abbrev pub is_constant_of : ℕ → ℕ → Value → Bool
is_constant_of number size (Const other count) = nat_eq other number && nat_eq count size
is_constant_of number size (Number count) = false
is_constant_of number size Any = false
is_constant_of number size (Address object offset target) = false

-- a value is this address of one node
abbrev pub is_address_of : ℕ → ℤ → Target → Value → Bool
is_address_of object offset target (Const number size) = false
is_address_of object offset target (Number size) = false
is_address_of object offset target Any = false
is_address_of object offset target (Address other offset' target') = nat_eq other object && (int_eq offset' offset && is_same_target target target')

-- two values are one constant, or one address of one node: they stand for one word, whatever their keys
abbrev pub is_same_word : Value → Value → Bool
is_same_word (Const number size) other = is_constant_of number size other
is_same_word (Number size) other = false
is_same_word Any other = false
is_same_word (Address object offset target) other = is_address_of object offset target other

-- the offset of an own address: that of a region, or of each node of a segment
abbrev pub offset_of : Target → ℤ → Option ℤ
offset_of Region offset = Some offset
offset_of First offset = None
offset_of Last offset = None
offset_of Each offset = Some offset

abbrev pub own_in : ℕ → Value → Option ℤ
own_in key (Const number size) = None
own_in key (Number size) = None
own_in key Any = None
own_in key (Address object offset target) = if nat_eq object key then offset_of target offset else None

abbrev pub apart : Bool → Standing
apart plain = if plain then Apart else Barred

abbrev pub own_standing : Option ℤ → Option ℤ → Bool → Standing
own_standing None other plain = apart plain
own_standing (Some offset) None plain = apart plain
own_standing (Some offset) (Some offset') plain = if int_eq offset offset' then Own offset else Barred

-- how a value of the first neighbour stands beside one of the second; `same` says that their keys are one
abbrev pub standing_of : Fold → Bool → Value → Value → Standing
standing_of fold same one other =
    if (same && may_be_held one) || is_same_word one other then Same
    else own_standing (own_in fold.first one) (own_in fold.second other) (is_plain one && is_plain other)

-- how a value of the first neighbour stands beside what the second one holds at its place, if that is a value
abbrev pub standing_at : Fold → Bool → Value → Option Value → Standing
standing_at fold same one None = Barred
standing_at fold same one (Some other) = standing_of fold same one other

abbrev pub standing_beside : Parts → Fold → ℕ → Value → Option ℕ → Standing
standing_beside parts fold key one None = apart (is_plain one)
standing_beside parts fold key one (Some key') = standing_at fold (nat_eq key key') one (value_at parts.values key')

abbrev pub standing_from : Parts → Fold → ℕ → Option ℕ → Option Value → Standing
standing_from parts fold key beside None = Barred
standing_from parts fold key beside (Some one) = standing_beside parts fold key one beside

-- how an edge of the first neighbour stands in the second one, which has these edges
abbrev pub standing : Parts → Fold → List HasValue → HasValue → Standing
standing parts fold behind edge = standing_from parts fold edge.value (key_in edge.at edge.size behind) (value_at parts.values edge.value)

abbrev pub is_barred : Standing → Bool
is_barred Same = false
is_barred (Own offset) = false
is_barred Apart = false
is_barred Barred = true

-- an edge of the second neighbour holds a plain number, or the first one has an edge at its place
abbrev pub is_met : Parts → List HasValue → HasValue → Bool
is_met parts before edge = passes_at parts is_plain edge.value || is_some (key_in edge.at edge.size before)

-- at each place that is no link, an address, or what may be one, stands in both: as the same value, or as the node's own address at one offset
abbrev pub are_met : Parts → Fold → List HasValue → List HasValue → Bool
are_met parts fold before behind = list_all (λ edge. not (is_barred (standing parts fold behind edge))) before && list_all (is_met parts before) behind
