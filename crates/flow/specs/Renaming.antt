-- Memories whose blocks have other numbers.
--
-- A renaming exchanges the numbers of blocks, one to one, and keeps each number that names no block yet. In bytes and words a
-- pointer leads to the block of the new number.
use Rattle.std.specs.Prelude.{◌≡◌, ℕ, ◌≤◌, Bool, List, map, length, slice_get}
use Rattle.std.specs.Option.{option_map}
use Rattle.bytes_core.specs.declared.byte.Byte.{Byte}
use Rattle.bytes_core.specs.declared.byte.Byte.TheVariants.{Num, Part}
use Rattle.bytes_core.specs.declared.word.Word.{Word}
use Rattle.bytes_core.specs.declared.word.Word.TheVariants.{Plain, To}
use Rattle.bytes_core.specs.declared.block.BlockKind.{BlockKind}
use Rattle.bytes_core.specs.declared.block.Block.{Block}
use Rattle.bytes_core.specs.Value.{address_number, is_same_address}
use Rattle.bytes_core.specs.Placement.{new_block, is_new_block, placed}
use Rattle.bytes_core.specs.Access.{access_fault, range_fault, loaded, stored, filled}
use Rattle.bytes_core.specs.Copying.{copy_fault, copied}
use Rattle.bytes_core.specs.Release.{free_fault, freed, without}
use Rattle.bytes_core.specs.Loss.{is_lost}

abbrev pub renamed_byte : (ℕ → ℕ) → Byte → Byte
renamed_byte renames (Num number) = Num number
renamed_byte renames (Part block offset k) = Part (renames block) offset k

abbrev pub renamed_word : (ℕ → ℕ) → Word → Word
renamed_word renames (Plain number) = Plain number
renamed_word renames (To block offset) = To (renames block) offset

abbrev pub renamed_block : (ℕ → ℕ) → Block → Block
renamed_block renames block = record block { bytes = map (renamed_byte renames) block.bytes }

-- the second memory has the blocks of the first under other numbers
pub record AreRenamed (renames back : ℕ → ℕ) (memory other : List Block) : Type 0 where
  pub count : length other ≡ length memory
  pub there : (number : ℕ) → back (renames number) ≡ number
  pub again : (number : ℕ) → renames (back number) ≡ number
  pub later : (number : ℕ) → length memory ≤ number → renames number ≡ number
  pub blocks : (number : ℕ) → slice_get other (renames number) ≡ option_map (renamed_block renames) (slice_get memory number)

-- what is read, and which faults are met, is the same but for the numbers
pub record ReadsRenamed (renames : ℕ → ℕ) (memory other : List Block) : Type 0 where
  pub addresses : (word : Word) → address_number other (renamed_word renames word) ≡ address_number memory word
  pub equality : (one second : Word) →
      is_same_address other (renamed_word renames one) (renamed_word renames second) ≡ is_same_address memory one second
  pub loads : (at : Word) (size : ℕ) (pointer : Bool) →
      loaded other (renamed_word renames at) size pointer ≡ renamed_word renames (loaded memory at size pointer)
  pub accesses : (at : Word) (count : ℕ) → access_fault other (renamed_word renames at) count ≡ access_fault memory at count
  pub ranges : (at : Word) (count : ℕ) → range_fault other (renamed_word renames at) count ≡ range_fault memory at count
  pub copies : (to from : Word) (count : ℕ) (disjoint : Bool) →
      copy_fault other (renamed_word renames to) (renamed_word renames from) count disjoint ≡ copy_fault memory to from count disjoint
  pub frees : (at : Word) → free_fault other (renamed_word renames at) ≡ free_fault memory at
  pub room : (kind : BlockKind) (size base : ℕ) (contents : List ℕ) →
      is_new_block other kind size base contents ≡ is_new_block memory kind size base contents
  pub loss : (roots : List ℕ) → is_lost other (map renames roots) ≡ is_lost memory roots

-- each change leaves memories that are renamed so
pub record ChangesRenamed (renames back : ℕ → ℕ) (memory other : List Block) : Type 0 where
  pub stores : (at : Word) (size : ℕ) (word : Word) →
      AreRenamed renames back (stored memory at size word) (stored other (renamed_word renames at) size (renamed_word renames word))
  pub fills : (at : Word) (number count : ℕ) →
      AreRenamed renames back (filled memory at number count) (filled other (renamed_word renames at) number count)
  pub copies : (to from : Word) (count : ℕ) →
      AreRenamed renames back (copied memory to from count) (copied other (renamed_word renames to) (renamed_word renames from) count)
  pub frees : (at : Word) → AreRenamed renames back (freed memory at) (freed other (renamed_word renames at))
  pub ends : (number : ℕ) →
      AreRenamed renames back (without memory number (slice_get memory number)) (without other (renames number) (slice_get other (renames number)))
  pub places : (kind : BlockKind) (base : ℕ) (contents : List ℕ) →
      AreRenamed renames back (placed memory (new_block kind base contents)) (placed other (new_block kind base contents))

-- memories that are renamed stay so
pub record IsRenamingKept : Type 0 where
  pub reads : (renames back : ℕ → ℕ) (memory other : List Block) → AreRenamed renames back memory other → ReadsRenamed renames memory other
  pub changes : (renames back : ℕ → ℕ) (memory other : List Block) → AreRenamed renames back memory other → ChangesRenamed renames back memory other
