-- What a graph knows of whether two values are the same (C11 6.5.9): equality compares numbers, and of pointers the address numbers.
use Rattle.std.specs.Prelude.{ℕ, Bool, false, ◌&&◌, not, nat_eq, Option, None, Some, if◌then◌else◌}
use Rattle.std.specs.List.{list_any}
use Rattle.std.specs.Option.{option_map_or}
use Rattle.std.specs.Ordering.{int_eq}
use Rattle.bytes_core.specs.Value.{is_inside}
use Rattle.graph.specs.declared.value.Value.{Value}
use Rattle.graph.specs.declared.value.Value.TheVariants.{Const, Number, Any, Address}
use Rattle.graph.specs.declared.parts.Parts.{Parts}
use Rattle.graph.specs.Maps.{object_at, value_at}
use Rattle.graph.specs.WellFormed.{differs_from}
use Rattle.changes.specs.Reaching.{is_excluded}
use Rattle.reinterpret.specs.declared.comparison.Comparison.{Comparison}
use Rattle.reinterpret.specs.declared.comparison.Comparison.TheVariants as known

-- a pair says that the values with two keys differ
abbrev pub is_noted : Parts → ℕ → ℕ → Bool
is_noted parts one other = list_any (λ pair. not (differs_from (record { left = one; right = other }) pair)) parts.unequal

-- a value is the address of a byte of a live object
abbrev pub is_inside_live : Parts → Value → Bool
is_inside_live parts (Const number size) = false
is_inside_live parts (Number size) = false
is_inside_live parts Any = false
is_inside_live parts (Address object offset target) = option_map_or (λ found. found.live && is_inside found.size offset) (object_at parts.objects object) false

-- two values of one key are the same word, whatever it is
abbrev pub unsure : ℕ → ℕ → Comparison
unsure left right = if nat_eq left right then known.Itself else known.Unknown

-- null is the address of no byte of a live object
abbrev pub null_compared : Parts → ℕ → ℕ → ℕ → Value → Comparison
null_compared parts left right number value = if nat_eq number 0 && is_inside_live parts value then known.Different else unsure left right

-- two constants; a number and a constant; two numbers; null and an address; two addresses of bytes of live objects, which are the same only in one object
-- at one offset. Of all others nothing is known
abbrev pub values_compared : Parts → ℕ → ℕ → Value → Value → Comparison
values_compared parts left right (Const number size) (Const number' size') = if nat_eq number number' then known.Same else known.Different
values_compared parts left right (Const number size) (Number size') = if is_excluded parts right number then known.Different else known.Either left right
values_compared parts left right (Const number size) Any = unsure left right
values_compared parts left right (Const number size) (Address object offset target) = null_compared parts left right number (Address object offset target)
values_compared parts left right (Number size) (Const number' size') = if is_excluded parts left number' then known.Different else known.Either right left
values_compared parts left right (Number size) (Number size') =
    if nat_eq left right then known.Same else (if is_noted parts left right then known.Different else known.Either left right)
values_compared parts left right (Number size) Any = unsure left right
values_compared parts left right (Number size) (Address object offset target) = unsure left right
values_compared parts left right Any value = unsure left right
values_compared parts left right (Address object offset target) (Const number size) = null_compared parts left right number (Address object offset target)
values_compared parts left right (Address object offset target) (Number size) = unsure left right
values_compared parts left right (Address object offset target) Any = unsure left right
values_compared parts left right (Address object offset target) (Address object' offset' target') =
    if is_inside_live parts (Address object offset target) && is_inside_live parts (Address object' offset' target')
    then (if nat_eq object object' && int_eq offset offset' then known.Same else known.Different) else unsure left right

abbrev pub found_compared : Parts → ℕ → ℕ → Option Value → Option Value → Comparison
found_compared parts left right None other = known.Unknown
found_compared parts left right (Some one) None = known.Unknown
found_compared parts left right (Some one) (Some other) = values_compared parts left right one other

-- what is known of the values with two keys
abbrev pub compared : Parts → ℕ → ℕ → Comparison
compared parts left right = found_compared parts left right (value_at parts.values left) (value_at parts.values right)
