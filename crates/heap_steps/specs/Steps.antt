-- What steps do with a state, as the flow machine does.
use Rattle.std.specs.Prelude.{◌≡◌, ℕ, List}
use Rattle.bytes_core.specs.declared.word.Word.TheVariants.{Plain}
use Rattle.bytes_core.specs.Fault.{memory_lost}
use Rattle.graph.specs.State.{State}
use Rattle.changes.specs.Parts.{emptied, put}
use Rattle.changes.specs.Following.{Leaves}
use Rattle.heap_steps.specs.Reached.{IsLost}

-- no block is lost
abbrev pub LosesNone : State → Type 0
LosesNone state = (number : ℕ) → ¬ IsLost state number

-- a block is lost
pub record LosesSome (kind : ℕ) (state : State) : Type 0 where
  pub number : ℕ
  pub lost : IsLost state number
  pub is : kind ≡ memory_lost

-- An allocation that gives null (C11 7.22.3p1): a register gets it.
pub record Refuses (into : ℕ) (state next : State) : Type 0 where
  pub leaves : Leaves state.memory (put into (Plain 0) state.registers) state next

-- The end of a full expression: its registers are emptied, and lost blocks are looked for.
pub record Finishes (gone : List ℕ) (state next : State) : Type 0 where
  pub leaves : Leaves state.memory (emptied gone state.registers) state next
  pub none : LosesNone next

pub record FaultsFinishing (gone : List ℕ) (kind : ℕ) (state : State) : Type 0 where
  pub next : State
  pub leaves : Leaves state.memory (emptied gone state.registers) state next
  pub some : LosesSome kind next
