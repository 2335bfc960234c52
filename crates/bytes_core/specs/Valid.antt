-- What always holds of a memory.
use Rattle.std.specs.Prelude.{ℕ, ◌<◌, List, length, IsTrue}
use Rattle.std.specs.List.{All, AllPairs}
use Rattle.bytes_core.specs.declared.byte.Byte.{Byte}
use Rattle.bytes_core.specs.declared.byte.Byte.TheVariants.{Num, Part}
use Rattle.bytes_core.specs.declared.word.Word.{Word}
use Rattle.bytes_core.specs.declared.word.Word.TheVariants.{Plain, To}
use Rattle.bytes_core.specs.declared.block.Block.{Block}
use Rattle.bytes_core.specs.Placement.{is_placed, are_compatible}

-- a part of a pointer names one of the first `count` blocks, and is one of eight
abbrev pub NamesBelow : ℕ → Byte → Type 0
NamesBelow count (Num number) = Unit {0}
NamesBelow count (Part block offset k) = (block < count) × (k < 8)

-- a word that is handed in names one of the first `count` blocks, if it is a pointer
abbrev pub WordNamesBelow : ℕ → Word → Type 0
WordNamesBelow count (Plain number) = Unit {0}
WordNamesBelow count (To block offset) = block < count

-- what holds of the blocks of each memory
pub record IsMemory (memory : List Block) : Type 0 where
  -- each block lies where a block may lie
  pub placed : All (λ block. IsTrue (is_placed block)) memory
  -- no two live blocks share an address
  pub apart : AllPairs (λ one other. IsTrue (are_compatible one other)) memory
  -- each part of a pointer names a block of this memory
  pub named : All (λ block. All (NamesBelow (length memory)) block.bytes) memory
