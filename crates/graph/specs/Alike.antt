-- States that differ in nothing that a graph sees: in the numbers of blocks, in where blocks lie, in the sizes and
-- bytes of dead blocks, and in dead blocks that one has and the other has not.
use Rattle.std.specs.Prelude.{◌≡◌, ℕ, ◌<◌, true, List, map, length, slice_get, Some, option_map, Contains}
use Rattle.bytes_core.specs.declared.byte.Byte.{Byte}
use Rattle.bytes_core.specs.declared.byte.Byte.TheVariants.{Num, Part}
use Rattle.bytes_core.specs.declared.block.BlockKind.{BlockKind}
use Rattle.bytes_core.specs.declared.block.Block.{Block}
use Rattle.bytes_core.specs.declared.word.Word.{Word}
use Rattle.bytes_core.specs.declared.word.Word.TheVariants.{Plain, To}
use Rattle.graph.specs.State.{State}
use Rattle.graph.specs.Meaning.{IsGone}

-- a pointer whose block has another number
abbrev pub renumbered_word : (ℕ → ℕ) → Word → Word
renumbered_word there (Plain number) = Plain number
renumbered_word there (To block offset) = To (there block) offset

abbrev pub renumbered_byte : (ℕ → ℕ) → Byte → Byte
renumbered_byte there (Num number) = Num number
renumbered_byte there (Part block offset k) = Part (there block) offset k

-- a live block of the same kind with the same bytes, wherever it lies
pub record LooksLike (there : ℕ → ℕ) (one other : Block) : Type 0 where
  pub live : other.live ≡ true
  pub kind : other.kind ≡ one.kind
  pub bytes : other.bytes ≡ map (renumbered_byte there) one.bytes

-- the live block with this number looks like this one
pub record Shows (there : ℕ → ℕ) (one : Block) (memory : List Block) (number : ℕ) : Type 0 where
  pub block : Block
  pub stands : slice_get memory number ≡ Some block
  pub looks : LooksLike there one block

-- a live block has this number
pub record IsLiveAt (memory : List Block) (number : ℕ) : Type 0 where
  pub block : Block
  pub stands : slice_get memory number ≡ Some block
  pub live : block.live ≡ true

-- all that a graph sees of the one state is the same in the other, where block `number` has the number `there number`
pub record IsSeenAs (there back : ℕ → ℕ) (one other : State) : Type 0 where
  pub same : (number : ℕ) → back (there number) ≡ number
  -- the live blocks look alike, and there are no others
  pub live : (number : ℕ) (block : Block) → slice_get one.memory number ≡ Some block → block.live ≡ true → Shows there block other.memory (there number)
  pub was_live : (number : ℕ) (block : Block) → slice_get other.memory number ≡ Some block → block.live ≡ true → IsLiveAt one.memory (back number) × (there (back number) ≡ number)
  -- dead blocks are gone, or dead and of the same kind
  pub gone : (number : ℕ) (kind : BlockKind) → IsGone kind (slice_get one.memory number) → IsGone kind (slice_get other.memory (there number))
  -- each block of the one has a number of a block in the other
  pub named : (number : ℕ) → number < length one.memory → there number < length other.memory
  pub variables : (variable : ℕ) → other.variables variable ≡ option_map there (one.variables variable)
  pub registers : (register : ℕ) → other.registers register ≡ option_map (renumbered_word there) (one.registers register)
  pub ports : other.ports ≡ map (renumbered_word there) one.ports
  pub roots : (root : ℕ) → Contains one.roots root → Contains other.roots (there root)
