-- What a copy does with a state, as the flow machine does: it empties the registers that it reads (C11 7.24.2.1, 7.24.2.2, 6.5.16.1).
use Rattle.std.specs.Prelude.{◌≡◌, ℕ, Bool, [], ◌∷◌, None, Some}
use Rattle.bytes_core.specs.declared.word.Word.{Word}
use Rattle.bytes_core.specs.Copying.{copy_fault, copied}
use Rattle.graph.specs.State.{State}
use Rattle.changes.specs.Following.{Leaves}
use Rattle.changes.specs.Parts.{emptied}

-- so many bytes from where the register `from` leads are written where the register `to` leads; all are read before one is written
pub record Copies (to from length : ℕ) (disjoint : Bool) (state next : State) : Type 0 where
  pub target : Word
  pub source : Word
  pub to_holds : state.registers to ≡ Some target
  pub from_holds : state.registers from ≡ Some source
  pub room : copy_fault state.memory target source length disjoint ≡ None
  pub leaves : Leaves (copied state.memory target source length) (emptied (to ∷ from ∷ []) state.registers) state next

-- the copy meets a fault
pub record FaultsCopying (to from length : ℕ) (disjoint : Bool) (kind : ℕ) (state : State) : Type 0 where
  pub target : Word
  pub source : Word
  pub to_holds : state.registers to ≡ Some target
  pub from_holds : state.registers from ≡ Some source
  pub fault : copy_fault state.memory target source length disjoint ≡ Some kind
