-- What a read leaves of the graph.
use Rattle.std.specs.Prelude.{◌≡◌, ◌≢◌, ℕ, List, Some}
use Rattle.graph.specs.declared.parts.Parts.{Parts}
use Rattle.graph.specs.declared.value.Value.{Value}
use Rattle.graph.specs.Maps.{value_at, held_by}
use Rattle.graph.specs.Sizes.{value_size}
use Rattle.changes.specs.Following.{KeepsTail}
use Rattle.changes.specs.Parts.{emptied}

-- after a read the registers that it reads are empty, and one holds a value of this size
pub record ReadTail (parts : Parts) (gone : List ℕ) (into size : ℕ) (after : Parts) : Type 0 where
  pub keeps : KeepsTail parts after
  pub registers : (register : ℕ) → register ≢ into → held_by after.registers register ≡ emptied gone (held_by parts.registers) register
  pub key : ℕ
  pub value : Value
  pub held : held_by after.registers into ≡ Some key
  pub is : value_at after.values key ≡ Some value
  pub size_is : value_size value ≡ size
