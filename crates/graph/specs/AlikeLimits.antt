-- What may differ in alike memories, and what is then told apart.
use Rattle.std.specs.Prelude.{◌≡◌, ℕ, Bool, true, false, List, [], ◌∷◌, map, slice_get, slice_set, nat_lt, pos, Some, option_map}
use Rattle.bytes_core.specs.declared.byte.Byte.{Byte}
use Rattle.bytes_core.specs.declared.word.Word.TheVariants.{Plain, To}
use Rattle.bytes_core.specs.declared.block.BlockKind.TheVariants.{Static, Heap}
use Rattle.bytes_core.specs.declared.block.Block.{Block}
use Rattle.bytes_core.specs.Value.{word_bytes, is_same_address}
use Rattle.bytes_core.specs.Placement.{placed}
use Rattle.bytes_core.specs.Access.{loaded}
use Rattle.bytes_core.specs.Valid.{IsMemory}
use Rattle.graph.specs.Alike.{renumbered_byte}
use Rattle.graph.specs.AlikeMemories.{AreAlike}

-- a block whose pointers lead to blocks of other numbers
abbrev pub renumbered_block : (ℕ → ℕ) → Block → Block
renumbered_block there block = record block { bytes = map (renumbered_byte there) block.bytes }

-- each difference that alike memories may have
pub record MayDiffer : Type 0 where
  -- the base, the size and the bytes of a dead block
  pub dead : (there back : ℕ → ℕ) (paired : ℕ → Bool) (one other : List Block) (number : ℕ) (block : Block) (base : ℕ) (bytes : List Byte) →
      AreAlike there back paired one other → slice_get other number ≡ Some block → block.live ≡ false →
      AreAlike there back paired one (slice_set other number (record block { base = base; bytes = bytes }))
  -- a dead block more, which nothing names
  pub unnamed : (there back : ℕ → ℕ) (paired : ℕ → Bool) (one other : List Block) (block : Block) →
      AreAlike there back paired one other → block.live ≡ false → AreAlike there back paired one (placed other block)
  -- the numbers of blocks
  pub numbers : (there back : ℕ → ℕ) (paired : ℕ → Bool) (one other : List Block) →
      AreAlike (λ number. number) (λ number. number) paired one one →
      ((number : ℕ) → back (there number) ≡ number) → ((number : ℕ) → there (back number) ≡ number) →
      ((number : ℕ) → slice_get other (there number) ≡ option_map (renumbered_block there) (slice_get one number)) →
      AreAlike there back paired one other

-- a live block at 16 with a dangling pointer, and a dead block that lies at this base
abbrev pub dangling : ℕ → List Block
dangling base =
    record { base = 16; kind = Static; live = true; bytes = word_bytes (To 1 (pos 0)) }
    ∷ record { base = base; kind = Heap; live = false; bytes = [] }
    ∷ []

-- of alike memories comparisons with a dangling pointer, and loads of a part of one or at an integer type, are told apart
pub record AreToldApart : Type 0 where
  pub memory : IsMemory (dangling 32)
  pub other_memory : IsMemory (dangling 16)
  pub alike : AreAlike (λ number. number) (λ number. number) (λ number. nat_lt number 2) (dangling 32) (dangling 16)
  pub unequal : is_same_address (dangling 32) (To 0 (pos 0)) (To 1 (pos 0)) ≡ false
  pub equal : is_same_address (dangling 16) (To 0 (pos 0)) (To 1 (pos 0)) ≡ true
  pub number_unequal : is_same_address (dangling 32) (Plain 16) (To 1 (pos 0)) ≡ false
  pub number_equal : is_same_address (dangling 16) (Plain 16) (To 1 (pos 0)) ≡ true
  pub first_byte : loaded (dangling 32) (To 0 (pos 0)) 1 true ≡ Plain 32
  pub other_byte : loaded (dangling 16) (To 0 (pos 0)) 1 true ≡ Plain 16
  pub integer : loaded (dangling 32) (To 0 (pos 0)) 8 false ≡ Plain 32
  pub other_integer : loaded (dangling 16) (To 0 (pos 0)) 8 false ≡ Plain 16
  -- the whole pointer is not
  pub pointer : loaded (dangling 32) (To 0 (pos 0)) 8 true ≡ To 1 (pos 0)
  pub other_pointer : loaded (dangling 16) (To 0 (pos 0)) 8 true ≡ To 1 (pos 0)
