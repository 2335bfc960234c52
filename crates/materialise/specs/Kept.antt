-- What stays the same where a segment of a graph is split.
use Rattle.std.specs.Prelude.{◌≡◌, ℕ, map, Option, option_map, is_some}
use Rattle.std.specs.Option.{option_and_then}
use Rattle.graph.specs.declared.parts.Parts.{Parts}
use Rattle.graph.specs.Maps.{value_at, storage_of, held_by}
use Rattle.graph.specs.Sizes.{value_size}

-- the size of the value with a key
abbrev pub size_at : Parts → ℕ → Option ℕ
size_at parts key = option_map value_size (value_at parts.values key)

-- the size of what a register holds
abbrev pub size_held : Parts → ℕ → Option ℕ
size_held parts register = option_and_then (size_at parts) (held_by parts.registers register)

-- both name the same variables, hold something in the same registers, in the same sizes, and have as many ports, in the same sizes
pub record HoldsAsBefore (parts after : Parts) : Type 0 where
  pub variables : (variable : ℕ) → is_some (storage_of after.variables variable) ≡ is_some (storage_of parts.variables variable)
  pub registers : (register : ℕ) → size_held after register ≡ size_held parts register
  pub ports : map (size_at after) after.ports ≡ map (size_at parts) parts.ports
