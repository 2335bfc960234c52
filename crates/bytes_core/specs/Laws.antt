-- Words in which the laws of memories are stated.
use Rattle.std.specs.Prelude.{◌≡◌, ◌≢◌, ℕ, ◌+◌, ◌^◌, ◌<◌, ◌≤◌, List, ◌++◌, length, take, drop, slice_get, ℤ, pos, ◌+ℤ◌, ◌≤ℤ◌, ◌<ℤ◌, Some, IsTrue}
use Rattle.bytes_core.specs.declared.byte.Byte.{Byte}
use Rattle.bytes_core.specs.declared.word.Word.{Word}
use Rattle.bytes_core.specs.declared.word.Word.TheVariants.{Plain, To}
use Rattle.bytes_core.specs.declared.block.Block.{Block}
use Rattle.bytes_core.specs.Value.{word_bytes}
use Rattle.bytes_core.specs.Release.{is_heap}

-- a number of a word has at most 64 bits
abbrev pub IsWord : Word → Type 0
IsWord (Plain number) = number < 2 ^ 64
IsWord (To block offset) = Unit {0}

-- the whole pointer to a block, at some offset, stands somewhere in the bytes
pub record HoldsPointer (target : ℕ) (bytes : List Byte) : Type 0 where
  pub front : List Byte
  pub offset : ℤ
  pub rest : List Byte
  pub is : bytes ≡ front ++ (word_bytes (To target offset) ++ rest)

-- a word leads to `count` bytes of a live block
pub record LeadsTo (memory : List Block) (at : Word) (count : ℕ) : Type 0 where
  pub number : ℕ
  pub from : ℕ
  pub block : Block
  pub is : at ≡ To number (pos from)
  pub stands : slice_get memory number ≡ Some block
  pub live : IsTrue block.live
  pub room : from + count ≤ length block.bytes

-- a word leads to the first byte of a live heap block
pub record LeadsToHeap (memory : List Block) (at : Word) : Type 0 where
  pub number : ℕ
  pub block : Block
  pub is : at ≡ To number (pos 0)
  pub stands : slice_get memory number ≡ Some block
  pub allocated : IsTrue (is_heap block.kind)
  pub live : IsTrue block.live

-- all but the block of this number stays as it was
pub record KeepsOthers (before after : List Block) (number : ℕ) : Type 0 where
  pub blocks : length after ≡ length before
  pub others : (other : ℕ) → other ≢ number → slice_get after other ≡ slice_get before other

-- all but so many bytes of a block from a place on stays as it was
pub record KeepsOtherBytes (old new : Block) (from count : ℕ) : Type 0 where
  pub base : new.base ≡ old.base
  pub kind : new.kind ≡ old.kind
  pub live : new.live ≡ old.live
  pub size : length new.bytes ≡ length old.bytes
  pub before : take from new.bytes ≡ take from old.bytes
  pub after : drop (from + count) new.bytes ≡ drop (from + count) old.bytes

-- some byte of one block lies in both ranges of `count` bytes, from one word on and from the other
pub record SharesByte (one other : Word) (count : ℕ) : Type 0 where
  pub block : ℕ
  pub from : ℤ
  pub from' : ℤ
  pub at : ℤ
  pub is : one ≡ To block from
  pub is' : other ≡ To block from'
  pub not_before : from ≤ℤ at
  pub not_behind : at <ℤ (from +ℤ pos count)
  pub not_before' : from' ≤ℤ at
  pub not_behind' : at <ℤ (from' +ℤ pos count)
