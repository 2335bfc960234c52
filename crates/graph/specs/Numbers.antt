-- Numbers for the values of a graph.
use Rattle.std.specs.Prelude.{◌≡◌, ◌≢◌, ℕ, ◌^◌, ◌<◌, ◌≤◌, true, List, length, slice_get, Option, Some, IsTrue}
use Rattle.bytes_core.specs.Placement.{can_be_placed}
use Rattle.bytes_core.specs.declared.block.Block.{Block}
use Rattle.bytes_core.specs.declared.block.BlockKind.{BlockKind}
use Rattle.bytes_core.specs.declared.byte.Byte.{Byte}
use Rattle.bytes_core.specs.declared.word.Word.{Word}
use Rattle.bytes_core.specs.declared.word.Word.TheVariants.{Plain}
use Rattle.graph.specs.declared.value.Value.TheVariants.{Const, Number}
use Rattle.graph.specs.declared.parts.Pair.{Pair}
use Rattle.graph.specs.declared.parts.Parts.{Parts}
use Rattle.graph.specs.Choices.{IsChoice, IsMadeWith}
use Rattle.graph.specs.Maps.{value_at}
use Rattle.graph.specs.Renaming.{numbered}
use Rattle.graph.specs.State.{State, IsState}
use Rattle.graph.specs.WellFormed.{IsWellFormed, HasAscendingKeys, is_within_limits}

-- constants have their own, each number fits its size, and those of unequal pairs differ
pub record AreNumbers (parts : Parts) (number : ℕ → ℕ) : Type 0 where
  pub constants : (key constant size : ℕ) → value_at parts.values key ≡ Some (Const constant size) → number key ≡ constant
  pub fits : (key size : ℕ) → value_at parts.values key ≡ Some (Number size) → number key < 256 ^ size
  pub unequal : (place : ℕ) (pair : Pair) → slice_get parts.unequal place ≡ Some pair → number pair.left ≢ number pair.right

-- the same of numbers that are given for some of the values, constants among them
pub record AreSomeNumbers (parts : Parts) (known : ℕ → Option ℕ) : Type 0 where
  pub constants : (key constant size : ℕ) → value_at parts.values key ≡ Some (Const constant size) → known key ≡ Some constant
  pub fits : (key size number : ℕ) → value_at parts.values key ≡ Some (Number size) → known key ≡ Some number → number < 256 ^ size
  pub unequal : (place : ℕ) (pair : Pair) (one other : ℕ) → slice_get parts.unequal place ≡ Some pair → known pair.left ≡ Some one → known pair.right ≡ Some other → one ≢ other

-- the numbers that are given are among these
abbrev pub AreAmong : (ℕ → Option ℕ) → (ℕ → ℕ) → Type 0
AreAmong known number = (key one : ℕ) → known key ≡ Some one → number key ≡ one

abbrev pub NumbersAreCompleted : Type 0
NumbersAreCompleted = (parts : Parts) (known : ℕ → Option ℕ) → IsWellFormed parts → IsTrue (is_within_limits parts) → AreSomeNumbers parts known →
    (number : ℕ → ℕ) × AreNumbers parts number × AreAmong known number

-- a graph stands for a state in which what was chosen stands, these numbers among it
pub record IsMadeWithNumbers (parts : Parts) (number : ℕ → ℕ) (word : ℕ → Word) (byte : ℕ → ℕ → Byte) (state : State) : Type 0 where
  pub made : IsMadeWith parts word byte state
  pub numbers : (key size : ℕ) → value_at parts.values key ≡ Some (Number size) → made.given.word key ≡ Plain (number key)

-- one more live block of at most 65,536 bytes can be put into the memory, and there is a number for it
pub record HasRoom (memory : List Block) : Type 0 where
  pub base : ℕ
  pub place : (kind : BlockKind) (bytes : List Byte) → length bytes ≤ 65536 → IsTrue (can_be_placed memory (record { base = base; kind = kind; live = true; bytes = bytes }))
  pub number : length memory < 2 ^ 32

abbrev pub NumbersMayBeChosen : Type 0
NumbersMayBeChosen = (parts : Parts) (number : ℕ → ℕ) (word : ℕ → Word) (byte : ℕ → ℕ → Byte) → HasAscendingKeys parts → IsWellFormed parts → IsTrue (is_within_limits parts) →
    IsChoice (numbered parts) word byte → AreNumbers (numbered parts) number →
    (state : State) × IsState state × IsMadeWithNumbers (numbered parts) number word byte state × HasRoom state.memory

-- so may those of some values, and the others are found
abbrev pub SomeNumbersMayBeChosen : Type 0
SomeNumbersMayBeChosen = (parts : Parts) (known : ℕ → Option ℕ) (word : ℕ → Word) (byte : ℕ → ℕ → Byte) → HasAscendingKeys parts → IsWellFormed parts → IsTrue (is_within_limits parts) →
    IsChoice (numbered parts) word byte → AreSomeNumbers (numbered parts) known →
    (number : ℕ → ℕ) × AreNumbers (numbered parts) number × AreAmong known number × ((state : State) × IsState state × IsMadeWithNumbers (numbered parts) number word byte state × HasRoom state.memory)
