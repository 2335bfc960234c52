-- Which blocks chains of whole stored pointers lead to in a state, and which blocks are lost.
--
-- A chain starts at the blocks of variables, at those that registers lead to, and at those that something outside holds. It goes
-- through live blocks only.
use Rattle.std.specs.Prelude.{◌≡◌, ℕ, slice_get, ℤ, Some, IsTrue, Contains}
use Rattle.bytes_core.specs.declared.block.Block.{Block}
use Rattle.bytes_core.specs.declared.word.Word.TheVariants.{To}
use Rattle.bytes_core.specs.Loss.{holds_pointer_to}
use Rattle.bytes_core.specs.Release.{is_heap}
use Rattle.graph.specs.State.{State}

-- where chains start
pub data IsRoot (state : State) : ℕ → Type 0 where
  OfVariable : (variable number : ℕ) → state.variables variable ≡ Some number → IsRoot state number
  OfRegister : (register number : ℕ) (offset : ℤ) → state.registers register ≡ Some (To number offset) → IsRoot state number
  Outside : (number : ℕ) → Contains state.roots number → IsRoot state number

-- a chain leads to the block of this number
pub data IsReached (state : State) : ℕ → Type 0 where
  Root : (number : ℕ) → IsRoot state number → IsReached state number
  Link : (number target : ℕ) (block : Block) → IsReached state number → slice_get state.memory number ≡ Some block → IsTrue block.live →
      IsTrue (holds_pointer_to target block.bytes) → IsReached state target

-- a live heap block that no chain leads to
pub record IsLost (state : State) (number : ℕ) : Type 0 where
  pub block : Block
  pub stands : slice_get state.memory number ≡ Some block
  pub allocated : IsTrue (is_heap block.kind)
  pub live : IsTrue block.live
  pub unreached : ¬ IsReached state number
