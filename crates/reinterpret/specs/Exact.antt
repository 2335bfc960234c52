-- What is asked of a value that is written.
use Rattle.std.specs.Prelude.{◌≡◌, ℕ, true, Some}
use Rattle.graph.specs.declared.parts.Parts.{Parts}
use Rattle.graph.specs.declared.value.Value.{Value}
use Rattle.graph.specs.Maps.{value_at}
use Rattle.graph.specs.Sizes.{value_size}
use Rattle.graph.specs.WellFormed.{may_be_held}

-- the value with a key has this size, and may be held
pub record IsWritable (parts : Parts) (key size : ℕ) (value : Value) : Type 0 where
  pub is : value_at parts.values key ≡ Some value
  pub size_is : value_size value ≡ size
  pub held : may_be_held value ≡ true
