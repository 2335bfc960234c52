-- What the instructions that touch registers alone do with a state, as the flow machine does.
--
-- Each but `Move` empties the registers that it reads. Where a register that is read holds nothing, or an operation has no value, the run ends.
use Rattle.std.specs.Prelude.{◌≡◌, ℕ, ◌^◌, ◌<◌, Bool, true, List, [], ◌∷◌, ℤ, pos, ◌*ℤ◌, Some, if◌then◌else◌}
use Rattle.arithmetic.specs.declared.op.Op.{Op}
use Rattle.arithmetic.specs.Computing.{computed}
use Rattle.arithmetic.specs.Conversion.{converted}
use Rattle.arithmetic.specs.Value.{value}
use Rattle.bytes_core.specs.declared.word.Word.{Word}
use Rattle.bytes_core.specs.declared.word.Word.TheVariants.{Plain, To}
use Rattle.bytes_core.specs.Value.{address_number, moved}
use Rattle.graph.specs.State.{State}
use Rattle.changes.specs.Following.{Leaves}
use Rattle.changes.specs.Parts.{emptied, put}

-- these registers are emptied, and then one gets a word that a relation gives
pub record Gains (gone : List ℕ) (into : ℕ) (Gives : State → Word → Type 0) (state next : State) : Type 0 where
  pub word : Word
  pub gives : Gives state word
  pub leaves : Leaves state.memory (put into word (emptied gone state.registers)) state next

-- no state meets a fault
abbrev pub NoFault : ℕ → State → Type 0
NoFault kind state = ⊥

-- A constant.
abbrev pub GivesNumber : ℕ → State → Word → Type 0
GivesNumber number state word = word ≡ Plain number

-- The address of a variable: of the first byte of its block (C11 6.5.3.2p3).
pub record GivesAddress (variable : ℕ) (state : State) (word : Word) : Type 0 where
  pub block : ℕ
  pub stands : state.variables variable ≡ Some block
  pub is : word ≡ To block (pos 0)

-- What another register holds.
abbrev pub GivesHeld : ℕ → State → Word → Type 0
GivesHeld from state word = state.registers from ≡ Some word

-- An address moved by a constant (C11 6.5.6p8).
pub record GivesShifted (at : ℕ) (by : ℤ) (state : State) (word : Word) : Type 0 where
  pub address : Word
  pub holds : state.registers at ≡ Some address
  pub is : word ≡ moved address by

-- An address moved by a register, which is read with a sign, times a constant.
pub record GivesShiftedBy (at by : ℕ) (scale : ℤ) (state : State) (word : Word) : Type 0 where
  pub address : Word
  pub number : Word
  pub holds : state.registers at ≡ Some address
  pub holds_number : state.registers by ≡ Some number
  pub is : word ≡ moved address (value 8 true (address_number state.memory number) *ℤ scale)

-- What an operator gives for two integers (C11 6.5.5 to 6.5.12); a pointer counts as its address number.
pub record GivesComputed (op : Op) (left right size : ℕ) (signed : Bool) (state : State) (word : Word) : Type 0 where
  pub one : Word
  pub other : Word
  pub holds : state.registers left ≡ Some one
  pub holds_other : state.registers right ≡ Some other
  pub number : ℕ
  pub computes : computed op size signed (address_number state.memory one) (address_number state.memory other) ≡ Some number
  pub is : word ≡ Plain number

-- An integer of size `was`, with a sign or without, that is converted to a size (C11 6.3.1.3).
pub record GivesConverted (from was size : ℕ) (signed : Bool) (state : State) (word : Word) : Type 0 where
  pub value : Word
  pub holds : state.registers from ≡ Some value
  pub is : word ≡ Plain (converted was signed size (address_number state.memory value))

-- A value from outside, of a size; a truth value is 0 or 1.
pub record GivesInput (size : ℕ) (truth : Bool) (state : State) (word : Word) : Type 0 where
  pub number : ℕ
  pub is : word ≡ Plain number
  pub fits : number < (if truth then 2 else 256 ^ size)

-- The steps.

abbrev pub Numbers : ℕ → ℕ → State → State → Type 0
Numbers into number = Gains [] into (GivesNumber number)

abbrev pub Addresses : ℕ → ℕ → State → State → Type 0
Addresses into variable = Gains [] into (GivesAddress variable)

abbrev pub Moves : ℕ → ℕ → State → State → Type 0
Moves into from = Gains [] into (GivesHeld from)

abbrev pub Shifts : ℕ → ℕ → ℤ → State → State → Type 0
Shifts into at by = Gains (at ∷ []) into (GivesShifted at by)

abbrev pub ShiftsBy : ℕ → ℕ → ℕ → ℤ → State → State → Type 0
ShiftsBy into at by scale = Gains (at ∷ by ∷ []) into (GivesShiftedBy at by scale)

abbrev pub Computes : ℕ → Op → ℕ → ℕ → ℕ → Bool → State → State → Type 0
Computes into op left right size signed = Gains (left ∷ right ∷ []) into (GivesComputed op left right size signed)

abbrev pub Converts : ℕ → ℕ → ℕ → ℕ → Bool → State → State → Type 0
Converts into from was size signed = Gains (from ∷ []) into (GivesConverted from was size signed)

abbrev pub Inputs : ℕ → ℕ → Bool → State → State → Type 0
Inputs into size truth = Gains [] into (GivesInput size truth)
