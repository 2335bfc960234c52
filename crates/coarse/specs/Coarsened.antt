-- A graph in which constants beyond a limit are forgotten.
use Rattle.std.specs.Prelude.{ℕ, Bool, ◌&&◌, not, map, if◌then◌else◌}
use Rattle.std.specs.List.{list_any}
use Rattle.graph.specs.declared.value.Value.{Value}
use Rattle.graph.specs.declared.parts.KeyedValue.{KeyedValue}
use Rattle.graph.specs.declared.parts.Parts.{Parts}
use Rattle.coarse.specs.Beyond.{is_beyond, forgotten}
use Rattle.coarse.specs.Spared.{is_spared}

-- the value with a key is a constant beyond the limit, and neither beyond an end of a segment nor a port
abbrev pub is_to_go : ℕ → Parts → ℕ → Value → Bool
is_to_go limit parts key value = is_beyond limit value && not (is_spared parts key)

-- the value that stands at a key after that
abbrev pub coarsened_value : ℕ → Parts → ℕ → Value → Value
coarsened_value limit parts key value = if is_to_go limit parts key value then forgotten value else value

-- each such constant becomes a number of its size, and all else is as it was
abbrev pub coarsened : ℕ → Parts → Parts
coarsened limit parts = record parts { values = map {B = KeyedValue} (λ entry. record { key = entry.key; value = coarsened_value limit parts entry.key entry.value }) parts.values }

-- there is no such constant
abbrev pub is_coarse : ℕ → Parts → Bool
is_coarse limit parts = not (list_any (λ entry. is_to_go limit parts entry.key entry.value) parts.values)
