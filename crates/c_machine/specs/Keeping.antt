-- What holds of every state of a run.
use Rattle.std.specs.Prelude.{◌≡◌, ℕ, ◌^◌, ◌<◌, true, List, [], ◌∷◌, ◌++◌, length, All, ℤ, pos, negsuc, Some, slice_get}
use Rattle.std.specs.List.{flat_map}
use Rattle.bytes_core.specs.declared.byte.Byte.{Byte}
use Rattle.bytes_core.specs.declared.byte.Byte.TheVariants.{Num, Part}
use Rattle.bytes_core.specs.declared.word.Word.{Word}
use Rattle.bytes_core.specs.declared.word.Word.TheVariants.{Plain, To}
use Rattle.bytes_core.specs.declared.block.Block.{Block}
use Rattle.bytes_core.specs.declared.block.BlockKind.{BlockKind}
use Rattle.bytes_core.specs.declared.block.BlockKind.TheVariants.{Static, Local}
use Rattle.bytes_core.specs.Valid.{IsMemory}
use Rattle.choices.specs.declared.choice.Choice.{Choice}
use Rattle.c_machine.specs.Program.{Program}
use Rattle.c_machine.specs.State.{State, StateIn, Went, blocks_of, objects_of}
use Rattle.c_machine.specs.Run.{run_of}
use Rattle.c_machine.specs.Step.{step}
use Rattle.c_machine.specs.Trees.{text_of}

-- an offset has 64 bits with a sign
abbrev pub IsOffset : ℤ → Type 0
IsOffset (pos number) = number < 2 ^ 63
IsOffset (negsuc before) = before < 2 ^ 63

-- a number in a byte is below 256, and a part of a pointer has such an offset
abbrev pub IsByte : Byte → Type 0
IsByte (Num number) = number < 256
IsByte (Part block offset k) = IsOffset offset

-- an operand that is a pointer leads to one of so many blocks, at such an offset
abbrev pub IsOperand : ℕ → Word → Type 0
IsOperand count (Plain number) = Unit {0}
IsOperand count (To block offset) = (block < count) × IsOffset offset

abbrev pub AreOperands : ℕ → List Word → Type 0
AreOperands count [] = Unit {0}
AreOperands count (word ∷ rest) = IsOperand count word × AreOperands count rest

-- the block of an object is there, it lives, and it is of that kind
pub record IsObject (kind : BlockKind) (memory : List Block) (number : ℕ) : Type 0 where
  pub block : Block
  pub stands : slice_get memory number ≡ Some block
  pub live : block.live ≡ true
  pub is : block.kind ≡ kind

abbrev pub AreLive : BlockKind → List Block → List ℕ → Type 0
AreLive kind memory [] = Unit {0}
AreLive kind memory (number ∷ rest) = IsObject kind memory number × AreLive kind memory rest

-- no number stands twice
abbrev pub Misses : ℕ → List ℕ → Type 0
Misses number [] = Unit {0}
Misses number (first ∷ rest) = (number ≡ first → ⊥) × Misses number rest

abbrev pub AreApart : List ℕ → Type 0
AreApart [] = Unit {0}
AreApart (number ∷ rest) = Misses number rest × AreApart rest

-- the blocks of the objects of all functions that run
abbrev pub own_blocks : {E S I : Type 0} → State E S I → List ℕ
own_blocks state = blocks_of (objects_of state.frame ++ flat_map objects_of state.callers)

-- the memory is one, and its bytes are bytes; operands lead to its blocks; the objects of all functions that run are live blocks of their own, which
-- are local ones, and the objects that live as long as the program runs are there
pub record IsState {E S I : Type 0} (state : State E S I) : Type 0 where
  pub memory : IsMemory state.memory
  pub bytes : All (λ block. All IsByte block.bytes) state.memory
  pub operands : AreOperands (length state.memory) state.operands
  pub objects : AreLive Local state.memory (own_blocks state)
  pub apart : AreApart (own_blocks state)
  pub statics : AreLive Static state.memory (blocks_of state.statics)

-- a step keeps that
abbrev pub DoStepsKeep : Type 0
DoStepsKeep = (p : Program) (state next : StateIn (text_of p)) (choices rest : List Choice) → IsState state → step (text_of p) state choices ≡ Went next rest → IsState next

-- and so each state of a run has it
abbrev pub DoRunsKeep : Type 0
DoRunsKeep = (p : Program) (steps : ℕ) (state : StateIn (text_of p)) (choices rest : List Choice) → run_of (text_of p) choices steps ≡ Went state rest → IsState state
