-- Lost blocks: the live heap blocks that no chain of whole stored pointers leads to.
--
-- A chain starts at the roots: the blocks of the live variables, and those that the pointers held by
-- unfinished expressions name. It goes through live blocks only, from one to the next by a pointer whose
-- eight parts stand there in order, at any place. A pointer leads to its block at any offset.
use Rattle.std.specs.Prelude.{◌≡◌, ℕ, zero, suc, ◌+◌, Bool, false, ◌&&◌, ◌||◌, not, List, [], ◌∷◌, length, take, slice_get, nat_eq, Some, IsTrue, Contains}
use Rattle.std.specs.List.{list_any}
use Rattle.bytes_core.specs.declared.byte.Byte.{Byte}
use Rattle.bytes_core.specs.declared.byte.Byte.TheVariants.{Num, Part}
use Rattle.bytes_core.specs.declared.block.Block.{Block}
use Rattle.bytes_core.specs.Value.{are_parts}
use Rattle.bytes_core.specs.Release.{is_heap}

-- whether a whole pointer to the block stands somewhere in the bytes
abbrev pub holds_pointer_to : ℕ → List Byte → Bool
holds_pointer_to target [] = false
holds_pointer_to target (Num number ∷ rest) = holds_pointer_to target rest
holds_pointer_to target (Part block offset k ∷ rest) =
    (nat_eq block target && are_parts block offset 0 (take 8 (Part block offset k ∷ rest))) || holds_pointer_to target rest

-- a chain of whole stored pointers from the roots to a block
pub data Chain (memory : List Block) (roots : List ℕ) : ℕ → Type 0 where
  -- a root is reached by the empty chain
  Root : (target : ℕ) → Contains roots target → Chain memory roots target
  -- a chain leads on from a live block of the memory to each block that it holds a whole pointer to
  Link : (number target : ℕ) (block : Block) → Chain memory roots number → slice_get memory number ≡ Some block → IsTrue block.live →
      IsTrue (holds_pointer_to target block.bytes) → Chain memory roots target

-- a live heap block that no chain leads to
pub record IsLostBlock (memory : List Block) (roots : List ℕ) (number : ℕ) (block : Block) : Type 0 where
  pub stands : slice_get memory number ≡ Some block
  pub allocated : IsTrue (is_heap block.kind)
  pub live : IsTrue block.live
  pub unreached : ¬ Chain memory roots number

-- whether the test passes at some block, given its number; the first is numbered `number`
abbrev pub some_block : (ℕ → Block → Bool) → ℕ → List Block → Bool
some_block test number [] = false
some_block test number (block ∷ rest) = test number block || some_block test (number + 1) rest

-- whether a chain of at most so many stored pointers leads from the roots to the block
unfoldable pub reached_within : ℕ → List Block → List ℕ → ℕ → Bool
reached_within zero memory roots target = list_any (nat_eq target) roots
reached_within (suc links) memory roots target =
    list_any (nat_eq target) roots
    || some_block (λ number block. block.live && (holds_pointer_to target block.bytes && reached_within links memory roots number)) 0 memory

-- whether some chain leads to the block: one that passes no block twice has at most as many pointers as
-- there are blocks
abbrev pub is_reached : List Block → List ℕ → ℕ → Bool
is_reached memory roots target = reached_within (length memory) memory roots target

-- whether a block is of the heap and lives
abbrev pub is_live_heap : Block → Bool
is_live_heap block = is_heap block.kind && block.live

-- whether some block is lost
abbrev pub is_lost : List Block → List ℕ → Bool
is_lost memory roots = some_block (λ number block. is_heap block.kind && (block.live && not (is_reached memory roots number))) 0 memory
