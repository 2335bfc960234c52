-- What the addresses of a segment are where it has no nodes: what lies beyond its ends, moved.
use Rattle.std.specs.Prelude.{ℕ, nat_eq, if◌then◌else◌, ℤ, pos, ◌+ℤ◌, ◌-ℤ◌}
use Rattle.std.specs.Int.{w64, cast_signed}
use Rattle.std.specs.Option.{option_map_or}
use Rattle.bytes_core.specs.Value.{wrapped}
use Rattle.graph.specs.declared.object.Links.{Links}
use Rattle.graph.specs.declared.value.Target.{Target}
use Rattle.graph.specs.declared.value.Target.TheVariants.{Region, First, Last, Each}
use Rattle.graph.specs.declared.value.Value.{Value}
use Rattle.graph.specs.declared.value.Value.TheVariants.{Const, Number, Any, Address}
use Rattle.graph.specs.declared.parts.Parts.{Parts}
use Rattle.graph.specs.Maps.{value_at}

-- a constant or an address, moved by so many bytes: an offset wraps as a 64-bit number with a sign, a number modulo 2^64. What lies
-- beyond a segment is one of the two; another value stays as it is
abbrev pub moved_value : Value → ℤ → Value
moved_value (Const number size) bytes = Const (wrapped (pos number +ℤ bytes)) 8
moved_value (Number size) bytes = Number size
moved_value Any bytes = Any
moved_value (Address object offset target) bytes = Address object (cast_signed w64 (wrapped (offset +ℤ bytes))) target

-- what lies beyond an end, moved
abbrev pub moved_link : Parts → ℕ → ℤ → Value
moved_link parts link bytes = option_map_or (λ value. moved_value value bytes) (value_at parts.values link) Any

-- the address of an end without a node. That of the first node is what lies behind the segment, moved by how far the offset lies behind
-- `head`; that of the last one what lies before it, moved by how far the offset lies behind `back`. An address that is each node's own means none,
-- and counts as 0
abbrev pub beyond_end : Parts → Links → Value → Target → ℤ → Value
beyond_end parts links value Region offset = value
beyond_end parts links value First offset = moved_link parts links.next_value (offset -ℤ pos links.head)
beyond_end parts links value Last offset = moved_link parts links.prev_value (offset -ℤ pos links.back)
beyond_end parts links value Each offset = Const 0 8

-- a value where the segment with a key and these links has no nodes
abbrev pub step_beyond : Parts → ℕ → Links → Value → Value
step_beyond parts key links (Const number size) = Const number size
step_beyond parts key links (Number size) = Number size
step_beyond parts key links Any = Any
step_beyond parts key links (Address object offset target) =
    if nat_eq object key then beyond_end parts links (Address object offset target) target offset else Address object offset target

-- what lies beyond one end may be an address of the other end, so there are two steps. There are no more, since a walk through ends of
-- segments that may be empty comes back to none
abbrev pub emptied_value : Parts → ℕ → Links → Value → Value
emptied_value parts key links value = step_beyond parts key links (step_beyond parts key links value)

-- what the value with a key becomes
abbrev pub value_after : Parts → ℕ → Links → ℕ → Value
value_after parts key links at = option_map_or (emptied_value parts key links) (value_at parts.values at) Any
