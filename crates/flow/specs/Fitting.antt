-- The states of a flow graph in which what registers hold fits its size.
use Rattle.std.specs.Prelude.{◌≡◌, ℕ, ◌<◌, ◌^◌, List, All, Contains}
use Rattle.bytes_core.specs.declared.byte.Byte.{Byte}
use Rattle.bytes_core.specs.declared.byte.Byte.TheVariants.{Num, Part}
use Rattle.bytes_core.specs.declared.word.Word.{Word}
use Rattle.bytes_core.specs.declared.word.Word.TheVariants.{Plain, To}
use Rattle.flow.specs.declared.flow_graph.Flow.{Flow}
use Rattle.flow.specs.declared.flow_graph.FlowEdge.{FlowEdge}
use Rattle.flow.specs.Holding.{Held}
use Rattle.choices.specs.declared.choice.Choice.{Choice}
use Rattle.flow.specs.Machine.{State, Went, step_along}
use Rattle.flow.specs.Runs.{start, run, then_go}
use Rattle.flow.specs.Valid.{IsFlow}

-- a number has at most so many bytes, and a pointer has eight
abbrev pub FitsSize : ℕ → Word → Type 0
FitsSize size (Plain number) = number < 256 ^ size
FitsSize size (To block offset) = size ≡ 8

abbrev pub Fits : Held → Type 0
Fits held = FitsSize held.size held.word

-- a number in a byte is below 256
abbrev pub IsByte : Byte → Type 0
IsByte (Num number) = number < 256
IsByte (Part block offset k) = Unit {0}

-- what registers hold fits its size, in the frame in work and in those of callers, and what bytes hold is a byte
pub record HasFittingValues (state : State) : Type 0 where
  pub registers : All Fits state.frame.registers
  pub callers : All (λ caller. All Fits caller.frame.registers) state.callers
  pub memory : All (λ block. All IsByte block.bytes) state.memory

-- a step along an edge of a flow graph keeps that
abbrev pub DoStepsFit : Type 0
DoStepsFit = (flow : Flow) (edge : FlowEdge) (state next : State) (choices rest : List Choice) →
    IsFlow flow → Contains flow.edges edge → HasFittingValues state → step_along flow edge state choices ≡ Went next rest → HasFittingValues next

-- and so each state of a run has it
abbrev pub DoRunsFit : Type 0
DoRunsFit = (flow : Flow) (state : State) (choices rest : List Choice) (steps : ℕ) →
    IsFlow flow → then_go (start flow choices) (run steps flow) ≡ Went state rest → HasFittingValues state
