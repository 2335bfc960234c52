-- What a read and a write do with a state, as the flow machine does: each empties the registers that it reads (C11 6.3.2.1p2, 6.5.16).
use Rattle.std.specs.Prelude.{◌≡◌, ℕ, Bool, [], ◌∷◌, None, Some}
use Rattle.bytes_core.specs.declared.word.Word.{Word}
use Rattle.bytes_core.specs.Access.{access_fault, loaded, stored}
use Rattle.graph.specs.State.{State}
use Rattle.changes.specs.Following.{Leaves}
use Rattle.changes.specs.Parts.{emptied, put}

-- the lowest bytes of what the register `from` holds are written where the register `at` leads
pub record Writes (at size from : ℕ) (state next : State) : Type 0 where
  pub to : Word
  pub word : Word
  pub address : state.registers at ≡ Some to
  pub value : state.registers from ≡ Some word
  pub room : access_fault state.memory to size ≡ None
  pub leaves : Leaves (stored state.memory to size word) (emptied (at ∷ from ∷ []) state.registers) state next

-- the write meets a fault
pub record FaultsWriting (at size from kind : ℕ) (state : State) : Type 0 where
  pub to : Word
  pub word : Word
  pub address : state.registers at ≡ Some to
  pub value : state.registers from ≡ Some word
  pub fault : access_fault state.memory to size ≡ Some kind

-- the register `into` gets what stands where the register `at` leads, read at a pointer type or at an integer type
pub record Reads (at size : ℕ) (pointer : Bool) (into : ℕ) (state next : State) : Type 0 where
  pub to : Word
  pub address : state.registers at ≡ Some to
  pub room : access_fault state.memory to size ≡ None
  pub leaves : Leaves state.memory (put into (loaded state.memory to size pointer) (emptied (at ∷ []) state.registers)) state next

pub record FaultsReading (at size kind : ℕ) (state : State) : Type 0 where
  pub to : Word
  pub address : state.registers at ≡ Some to
  pub fault : access_fault state.memory to size ≡ Some kind
