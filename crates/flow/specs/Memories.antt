-- What always holds of the memory of a run, and of what leads into it.
use Rattle.std.specs.Prelude.{◌≡◌, ℕ, ◌+◌, ◌^◌, ◌<◌, List, [], ◌∷◌, length, ℤ, pos, negsuc, Some, slice_get, if◌then◌else◌, All, Contains}
use Rattle.bytes_core.specs.declared.byte.Byte.{Byte}
use Rattle.bytes_core.specs.declared.byte.Byte.TheVariants.{Num, Part}
use Rattle.bytes_core.specs.declared.word.Word.{Word}
use Rattle.bytes_core.specs.declared.word.Word.TheVariants.{Plain, To}
use Rattle.bytes_core.specs.declared.block.Block.{Block}
use Rattle.bytes_core.specs.Valid.{IsMemory}
use Rattle.choices.specs.declared.choice.Choice.{Choice}
use Rattle.flow.specs.declared.flow_graph.Flow.{Flow}
use Rattle.flow.specs.declared.flow_graph.FlowEdge.{FlowEdge}
use Rattle.flow.specs.declared.flow_graph.Variable.{Variable}
use Rattle.flow.specs.declared.flow_graph.InitialWord.{InitialWord}
use Rattle.flow.specs.declared.flow_graph.InitialWord.TheVariants as initial
use Rattle.flow.specs.Holding.{Owned}
use Rattle.flow.specs.Machine.{Frame, State, Went, size_in, step_along}
use Rattle.flow.specs.Runs.{start, run, then_go}
use Rattle.flow.specs.Keeping.{variables_of, IsStateOf}
use Rattle.flow.specs.Valid.{IsFlow}

-- a number of 64 bits with a sign
abbrev pub IsOffset : ℤ → Type 0
IsOffset (pos offset) = offset < 2 ^ 63
IsOffset (negsuc before) = before < 2 ^ 63

-- an address leads to one of the first `count` blocks, at an offset of 64 bits
abbrev pub LeadsBelow : ℕ → Word → Type 0
LeadsBelow count (Plain number) = Unit {0}
LeadsBelow count (To block offset) = (block < count) × IsOffset offset

-- so does an address of which a byte is a part; that its block is there `IsMemory` says
abbrev pub HasOffset : Byte → Type 0
HasOffset (Num number) = Unit {0}
HasOffset (Part block offset k) = IsOffset offset

-- a variable has a block, of as many bytes as it has itself
pub record HasBlock (flow : Flow) (memory : List Block) (owned : Owned) : Type 0 where
  pub block : Block
  pub stands : slice_get memory owned.block ≡ Some block
  pub size : length block.bytes ≡ size_in flow owned.variable

-- a frame whose variables have their blocks, and whose addresses lead to blocks
pub record IsFrameOf (flow : Flow) (memory : List Block) (frame : Frame) : Type 0 where
  pub variables : All (HasBlock flow memory) frame.variables
  pub registers : All (λ held. LeadsBelow (length memory) held.word) frame.registers

-- the numbers of the static ones among variables, of which the first is numbered `number`
abbrev pub fixed_from : ℕ → List Variable → List ℕ
fixed_from number [] = []
fixed_from number (variable ∷ rest) = if variable.fixed then number ∷ fixed_from (number + 1) rest else fixed_from (number + 1) rest

-- a state with a memory, to whose blocks all that it has leads, and whose static variables are those of the graph, in their order
pub record HasMemory (flow : Flow) (state : State) : Type 0 where
  pub memory : IsMemory state.memory
  pub offsets : All (λ block. All HasOffset block.bytes) state.memory
  pub frame : IsFrameOf flow state.memory state.frame
  pub callers : All (λ caller. IsFrameOf flow state.memory caller.frame) state.callers
  pub statics : All (HasBlock flow state.memory) state.statics
  pub fixed : variables_of state.statics ≡ fixed_from 0 flow.variables
  pub outer : All (λ block. block < length state.memory) state.outer

-- the offset of an address that a static variable holds at the start
abbrev pub HasInitialOffset : InitialWord → Type 0
HasInitialOffset (initial.Number number) = Unit {0}
HasInitialOffset (initial.Address variable offset) = IsOffset offset

-- a step along an edge of a flow graph keeps that
abbrev pub DoStepsKeepMemory : Type 0
DoStepsKeepMemory = (flow : Flow) (edge : FlowEdge) (state next : State) (choices rest : List Choice) →
    IsFlow flow → Contains flow.edges edge → IsStateOf flow state → HasMemory flow state → step_along flow edge state choices ≡ Went next rest → HasMemory flow next

-- and so each state of a run has it, where the offsets of what static variables hold at the start are of 64 bits
abbrev pub DoRunsKeepMemory : Type 0
DoRunsKeepMemory = (flow : Flow) (state : State) (choices rest : List Choice) (steps : ℕ) →
    IsFlow flow → All (λ scalar. HasInitialOffset scalar.word) flow.initial → then_go (start flow choices) (run steps flow) ≡ Went state rest → HasMemory flow state
