-- What accesses, copies, frees, losses and new blocks come to in alike memories.
--
-- Where a dead block lies may differ, and so may the address of a pointer into it. All else is the same but for the numbers
-- of blocks.
use Rattle.std.specs.Prelude.{◌≡◌, ℕ, ◌%◌, ◌^◌, ◌<◌, ◌||◌, Bool, true, false, List, map, length, slice_get, nat_eq, ℤ, pos, None, IsTrue}
use Rattle.std.specs.List.{All}
use Rattle.bytes_core.specs.declared.byte.Byte.{Byte}
use Rattle.bytes_core.specs.declared.byte.Byte.TheVariants.{Num, Part}
use Rattle.bytes_core.specs.declared.word.Word.{Word}
use Rattle.bytes_core.specs.declared.word.Word.TheVariants.{Plain, To}
use Rattle.bytes_core.specs.declared.block.BlockKind.{BlockKind}
use Rattle.bytes_core.specs.declared.block.Block.{Block}
use Rattle.bytes_core.specs.Value.{address_number, is_same_address, byte_number, moved}
use Rattle.bytes_core.specs.Valid.{IsMemory}
use Rattle.bytes_core.specs.Placement.{new_block, is_new_block, placed}
use Rattle.bytes_core.specs.Access.{access_fault, range_fault, bytes_at, loaded, stored, filled}
use Rattle.bytes_core.specs.Copying.{copy_fault, copied}
use Rattle.bytes_core.specs.Release.{free_fault, freed, without}
use Rattle.bytes_core.specs.Loss.{is_lost}
use Rattle.graph.specs.Alike.{renumbered_word, renumbered_byte, IsLiveAt}
use Rattle.graph.specs.AlikeMemories.{NamesAmong, WordNamesAmong, AreAlike}

-- a byte is a number, or part of a pointer to a live block; a word is a number, or leads to a live block
abbrev pub ByteDoesNotDangle : List Block → Byte → Type 0
ByteDoesNotDangle memory (Num number) = Unit {0}
ByteDoesNotDangle memory (Part block offset k) = IsLiveAt memory block

abbrev pub DoesNotDangle : List Block → Word → Type 0
DoesNotDangle memory (Plain number) = Unit {0}
DoesNotDangle memory (To block offset) = IsLiveAt memory block

-- which faults are met: the same, also through dangling pointers
pub record FaultsAlike (there : ℕ → ℕ) (paired : ℕ → Bool) (one other : List Block) : Type 0 where
  pub accesses : (at : Word) (count : ℕ) → access_fault other (renumbered_word there at) count ≡ access_fault one at count
  pub ranges : (at : Word) (count : ℕ) → range_fault other (renumbered_word there at) count ≡ range_fault one at count
  pub copies : (to from : Word) (count : ℕ) (disjoint : Bool) →
      copy_fault other (renumbered_word there to) (renumbered_word there from) count disjoint ≡ copy_fault one to from count disjoint
  -- a second free is told from one that is not allowed by the dead block, which is there where its pointer is
  pub frees : (at : Word) → WordNamesAmong paired at → free_fault other (renumbered_word there at) ≡ free_fault one at
  pub room : (kind : BlockKind) (size base : ℕ) (contents : List ℕ) →
      is_new_block other kind size base contents ≡ is_new_block one kind size base contents
  pub loss : (roots : List ℕ) → is_lost other (map there roots) ≡ is_lost one roots

-- what is read, where the access meets no fault
pub record ReadsAlike (there : ℕ → ℕ) (paired : ℕ → Bool) (one other : List Block) : Type 0 where
  pub bytes : (at : Word) (count : ℕ) → range_fault one at count ≡ None →
      bytes_at other (renumbered_word there at) count ≡ map (renumbered_byte there) (bytes_at one at count)
  -- each byte as a number, but for a part of a dangling pointer
  pub numbers : (byte : Byte) → ByteDoesNotDangle one byte → byte_number other (renumbered_byte there byte) ≡ byte_number one byte
  -- a pointer, dangling or not
  pub pointers : (at : Word) (size block : ℕ) (offset : ℤ) → access_fault one at size ≡ None →
      loaded one at size true ≡ To block offset → loaded other (renumbered_word there at) size true ≡ To (there block) offset
  -- whatever has no part of a dangling pointer
  pub loads : (at : Word) (size : ℕ) (pointer : Bool) → access_fault one at size ≡ None →
      All (ByteDoesNotDangle one) (bytes_at one at size) →
      loaded other (renumbered_word there at) size pointer ≡ renumbered_word there (loaded one at size pointer)
  -- with parts of dangling pointers: a number in both
  pub parts : (at : Word) (size : ℕ) (pointer : Bool) (number : ℕ) → access_fault one at size ≡ None →
      loaded one at size pointer ≡ Plain number →
      (number' : ℕ) × (loaded other (renumbered_word there at) size pointer ≡ Plain number')
  -- what is read names what is paired
  pub names : (at : Word) (count : ℕ) → range_fault one at count ≡ None → All (NamesAmong paired) (bytes_at one at count)
  pub loaded_names : (at : Word) (size : ℕ) (pointer : Bool) → access_fault one at size ≡ None → WordNamesAmong paired (loaded one at size pointer)

-- addresses, as `==` compares them, and moves
pub record ComparesAlike (there : ℕ → ℕ) (one other : List Block) : Type 0 where
  pub addresses : (word : Word) → DoesNotDangle one word → address_number other (renumbered_word there word) ≡ address_number one word
  pub equality : (left right : Word) → DoesNotDangle one left → DoesNotDangle one right →
      is_same_address other (renumbered_word there left) (renumbered_word there right) ≡ is_same_address one left right
  -- two pointers to one block, dangling or not
  pub within : (block : ℕ) (offset offset' : ℤ) →
      is_same_address other (To (there block) offset) (To (there block) offset') ≡ is_same_address one (To block offset) (To block offset')
  pub moves : (word : Word) (bytes : ℤ) → moved (renumbered_word there word) bytes ≡ renumbered_word there (moved word bytes)

-- what is left of the address of a dangling pointer in two memories, since a base is a multiple of 16, from 16 on
pub record DanglesAlike (there : ℕ → ℕ) (paired : ℕ → Bool) (one other : List Block) : Type 0 where
  pub lowest : (word : Word) → WordNamesAmong paired word → address_number other (renumbered_word there word) % 16 ≡ address_number one word % 16
  -- it is not null where the offset is not negative
  pub not_null : (block offset : ℕ) → IsTrue (paired block) → offset < 2 ^ 63 →
      (is_same_address one (To block (pos offset)) (Plain 0) ≡ false) × (is_same_address other (To (there block) (pos offset)) (Plain 0) ≡ false)

-- a new block in both: one pair more
pub record ArePlacedAlike (there back : ℕ → ℕ) (paired : ℕ → Bool) (one other : List Block) (block : Block) : Type 0 where
  pub there' : ℕ → ℕ
  pub back' : ℕ → ℕ
  pub alike : AreAlike there' back' (λ number. paired number || nat_eq number (length one)) (placed one block) (placed other block)
  pub new : there' (length one) ≡ length other
  pub kept : (number : ℕ) → IsTrue (paired number) → there' number ≡ there number

-- each change leaves alike memories
pub record ChangesAlike (there back : ℕ → ℕ) (paired : ℕ → Bool) (one other : List Block) : Type 0 where
  pub stores : (at : Word) (size : ℕ) (word : Word) → WordNamesAmong paired word →
      AreAlike there back paired (stored one at size word) (stored other (renumbered_word there at) size (renumbered_word there word))
  pub fills : (at : Word) (number count : ℕ) →
      AreAlike there back paired (filled one at number count) (filled other (renumbered_word there at) number count)
  pub copies : (to from : Word) (count : ℕ) → range_fault one from count ≡ None →
      AreAlike there back paired (copied one to from count) (copied other (renumbered_word there to) (renumbered_word there from) count)
  pub frees : (at : Word) → AreAlike there back paired (freed one at) (freed other (renumbered_word there at))
  pub ends : (number : ℕ) →
      AreAlike there back paired (without one number (slice_get one number)) (without other (there number) (slice_get other (there number)))
  pub places : (kind : BlockKind) (base : ℕ) (contents : List ℕ) → ArePlacedAlike there back paired one other (new_block kind base contents)

-- steps and faults respect alike memories
pub record AreAlikeRespected : Type 0 where
  pub faults : (there back : ℕ → ℕ) (paired : ℕ → Bool) (one other : List Block) → AreAlike there back paired one other → FaultsAlike there paired one other
  pub reads : (there back : ℕ → ℕ) (paired : ℕ → Bool) (one other : List Block) → AreAlike there back paired one other → ReadsAlike there paired one other
  pub compares : (there back : ℕ → ℕ) (paired : ℕ → Bool) (one other : List Block) → AreAlike there back paired one other → ComparesAlike there one other
  pub dangles : (there back : ℕ → ℕ) (paired : ℕ → Bool) (one other : List Block) → AreAlike there back paired one other →
      IsMemory one → IsMemory other → DanglesAlike there paired one other
  pub changes : (there back : ℕ → ℕ) (paired : ℕ → Bool) (one other : List Block) → AreAlike there back paired one other → ChangesAlike there back paired one other
