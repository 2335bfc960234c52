-- Where an access through a value of a graph leads, and which faults it may meet (C11 6.5.3.2p4, 6.5.6p8, 6.2.4p2).
use Rattle.std.specs.Prelude.{ℕ, zero, suc, Bool, true, false, ◌||◌, ◌&&◌, ℤ, pos, negsuc, nat_eq, nat_lt, Option, None, Some, not, if◌then◌else◌}
use Rattle.std.specs.Option.{option_map_or}
use Rattle.std.specs.List.{list_any}
use Rattle.bytes_core.specs.Fault.{null_pointer_dereference, access_outside_object, access_to_dead_object, access_through_invalid_address}
use Rattle.bytes_core.specs.Access.{is_within}
use Rattle.graph.specs.declared.object.Object.{Object}
use Rattle.graph.specs.declared.value.Target.TheVariants.{Region, First, Last, Each}
use Rattle.graph.specs.declared.value.Value.{Value}
use Rattle.graph.specs.declared.value.Value.TheVariants.{Const, Number, Any, Address}
use Rattle.graph.specs.declared.parts.Pair.{Pair}
use Rattle.graph.specs.declared.parts.Parts.{Parts}
use Rattle.graph.specs.Maps.{object_at, value_at, held_by}
use Rattle.graph.specs.Sizes.{value_size}
use Rattle.graph.specs.WellFormed.{passes_at}
use Rattle.changes.specs.declared.reach.Reach.{Reach}
use Rattle.changes.specs.declared.reach.Reach.TheVariants as to

-- the fault of an access through a plain number
abbrev pub number_kind : ℕ → ℕ
number_kind number = if nat_lt number 4096 then null_pointer_dereference else access_through_invalid_address

-- the value is this constant
abbrev pub is_constant_of : ℕ → Value → Bool
is_constant_of number (Const other size) = nat_eq other number
is_constant_of number (Number size) = false
is_constant_of number Any = false
is_constant_of number (Address object offset target) = false

abbrev pub is_number_at : Parts → ℕ → ℕ → Bool
is_number_at parts number key = option_map_or (is_constant_of number) (value_at parts.values key) false

-- the pair says that the value with a key is not this number
abbrev pub tells_apart : Parts → ℕ → ℕ → Pair → Bool
tells_apart parts key number pair = (nat_eq pair.left key && is_number_at parts number pair.right) || (nat_eq pair.right key && is_number_at parts number pair.left)

abbrev pub is_excluded : Parts → ℕ → ℕ → Bool
is_excluded parts key number = list_any (tells_apart parts key number) parts.unequal

-- it is none of the numbers below a bound
unfoldable pub are_excluded : Parts → ℕ → ℕ → Bool
are_excluded parts key zero = true
are_excluded parts key (suc bound) = is_excluded parts key bound && are_excluded parts key bound

abbrev pub has_live_object : Parts → Bool
has_live_object parts = list_any (λ entry. entry.object.live) parts.objects

-- an access to so many bytes from an offset of an object's block on
abbrev pub object_reach : Option Object → ℕ → ℤ → ℕ → Reach
object_reach None key offset count = to.Fault access_to_dead_object
object_reach (Some object) key (pos from) count =
    if object.live then (if is_within object.size (pos from) count then to.Room key from else to.Fault access_outside_object) else to.Fault access_to_dead_object
object_reach (Some object) key (negsuc before) count = if object.live then to.Fault access_outside_object else to.Fault access_to_dead_object

abbrev pub value_reach : Parts → ℕ → Option Value → ℕ → Reach
value_reach parts key None count = to.Nothing
value_reach parts key (Some (Const number size)) count = to.Fault (number_kind number)
value_reach parts key (Some (Number size)) count = to.Number (not (are_excluded parts key 4096))
value_reach parts key (Some Any) count = to.Anything (has_live_object parts)
value_reach parts key (Some (Address object offset target)) count = object_reach (object_at parts.objects object) object offset count

-- an access to so many bytes through the value with a key
abbrev pub reach_of : Parts → ℕ → ℕ → Reach
reach_of parts key count = value_reach parts key (value_at parts.values key) count

-- the value is no address of a node of a segment
abbrev pub names_no_segment : Value → Bool
names_no_segment (Const number size) = true
names_no_segment (Number size) = true
names_no_segment Any = true
names_no_segment (Address object offset Region) = true
names_no_segment (Address object offset First) = false
names_no_segment (Address object offset Last) = false
names_no_segment (Address object offset Each) = false

-- a register holds a value of eight bytes, which is no address of a node of a segment
abbrev pub is_address_held : Parts → ℕ → Bool
is_address_held parts register = option_map_or (passes_at parts (λ value. nat_eq (value_size value) 8 && names_no_segment value)) (held_by parts.registers register) false
