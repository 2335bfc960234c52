-- Alike memories.
--
-- They differ only in the numbers of blocks, in the bases, sizes and bytes of dead blocks, and in dead blocks that nothing
-- names. So a live block keeps its base. A set of numbers says which blocks of the one are blocks of the other: each that
-- lives, and each that something names, be it the byte of a live block or something outside the memory.
use Rattle.std.specs.Prelude.{◌≡◌, ℕ, Bool, true, false, List, slice_get, Option, None, Some, IsTrue, ◌⊎◌}
use Rattle.std.specs.List.{All}
use Rattle.bytes_core.specs.declared.byte.Byte.{Byte}
use Rattle.bytes_core.specs.declared.byte.Byte.TheVariants.{Num, Part}
use Rattle.bytes_core.specs.declared.word.Word.{Word}
use Rattle.bytes_core.specs.declared.word.Word.TheVariants.{Plain, To}
use Rattle.bytes_core.specs.declared.block.Block.{Block}
use Rattle.graph.specs.Alike.{LooksLike}

-- the block that a byte is part of a pointer to, or that a word leads to, is one of a set
abbrev pub NamesAmong : (ℕ → Bool) → Byte → Type 0
NamesAmong set (Num number) = Unit {0}
NamesAmong set (Part block offset k) = IsTrue (set block)

abbrev pub WordNamesAmong : (ℕ → Bool) → Word → Type 0
WordNamesAmong set (Plain number) = Unit {0}
WordNamesAmong set (To block offset) = IsTrue (set block)

-- a block is dead, or there is none
abbrev pub IsDeadOrNone : Option Block → Type 0
IsDeadOrNone None = Unit {0}
IsDeadOrNone (Some block) = block.live ≡ false

-- both live, at one base, and look alike
pub record AreLiveAlike (there : ℕ → ℕ) (one other : Block) : Type 0 where
  pub live : one.live ≡ true
  pub base : other.base ≡ one.base
  pub looks : LooksLike there one other

-- both are dead and of one kind; their bases, sizes and bytes may differ
pub record AreDeadAlike (one other : Block) : Type 0 where
  pub dead : one.live ≡ false
  pub dead' : other.live ≡ false
  pub kind : other.kind ≡ one.kind

-- a block and the block that it is in the other memory
pub record ArePaired (there : ℕ → ℕ) (one other : Option Block) : Type 0 where
  pub block : Block
  pub block' : Block
  pub stands : one ≡ Some block
  pub stands' : other ≡ Some block'
  pub alike : AreLiveAlike there block block' ⊎ AreDeadAlike block block'

-- block `number` of the one memory is block `there number` of the other, where the number is one of the set `paired`
pub record AreAlike (there back : ℕ → ℕ) (paired : ℕ → Bool) (one other : List Block) : Type 0 where
  -- the numbers are exchanged one to one
  pub same : (number : ℕ) → back (there number) ≡ number
  pub again : (number : ℕ) → there (back number) ≡ number
  pub pairs : (number : ℕ) → IsTrue (paired number) → ArePaired there (slice_get one number) (slice_get other (there number))
  -- what is not paired does not live, in neither of them
  pub others : (number : ℕ) → paired number ≡ false → IsDeadOrNone (slice_get one number) × IsDeadOrNone (slice_get other (there number))
  -- what the bytes of a live block name is paired
  pub held : (number : ℕ) (block : Block) → slice_get one number ≡ Some block → block.live ≡ true → All (NamesAmong paired) block.bytes
