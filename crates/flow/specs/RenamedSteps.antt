-- Steps of states whose blocks have other numbers.
use Rattle.std.specs.Prelude.{◌≡◌, ℕ, List, map}
use Rattle.bytes_core.specs.declared.block.Block.{Block}
use Rattle.flow.specs.declared.flow_graph.Flow.{Flow}
use Rattle.flow.specs.declared.flow_graph.FlowEdge.{FlowEdge}
use Rattle.flow.specs.Holding.{Held, Owned}
use Rattle.choices.specs.declared.choice.Choice.{Choice}
use Rattle.flow.specs.Machine.{Frame, Caller, State, Outcome, Went, Barred, Waits, Ended, Faulted, step_along}
use Rattle.flow.specs.Runs.{run}
use Rattle.flow.specs.Renaming.{renamed_word, AreRenamed}

abbrev pub renamed_held : (ℕ → ℕ) → Held → Held
renamed_held renames held = record held { word = renamed_word renames held.word }

abbrev pub renamed_owned : (ℕ → ℕ) → Owned → Owned
renamed_owned renames owned = record owned { block = renames owned.block }

abbrev pub renamed_frame : (ℕ → ℕ) → Frame → Frame
renamed_frame renames frame = record {
  variables = map (renamed_owned renames) frame.variables;
  registers = map (renamed_held renames) frame.registers;
}

abbrev pub renamed_caller : (ℕ → ℕ) → Caller → Caller
renamed_caller renames caller = record caller { frame = renamed_frame renames caller.frame }

-- a state with other numbers of blocks, and with this memory
abbrev pub renamed_state : (ℕ → ℕ) → List Block → State → State
renamed_state renames memory state = record {
  point = state.point;
  frame = renamed_frame renames state.frame;
  callers = map (renamed_caller renames) state.callers;
  statics = map (renamed_owned renames) state.statics;
  memory = memory;
  outer = map renames state.outer;
}

-- the second state is the first with other numbers of blocks
pub record IsRenamedState (renames back : ℕ → ℕ) (state other : State) : Type 0 where
  pub memory : AreRenamed renames back state.memory other.memory
  pub is : other ≡ renamed_state renames other.memory state

-- both come to the same, with other numbers of blocks
abbrev pub IsSameRenamed : (ℕ → ℕ) → (ℕ → ℕ) → Outcome → Outcome → Type 0
IsSameRenamed renames back (Went next rest) (Went next' rest') = IsRenamedState renames back next next' × (rest ≡ rest')
IsSameRenamed renames back (Went next rest) other = ⊥
IsSameRenamed renames back Barred other = other ≡ Barred
IsSameRenamed renames back Waits other = other ≡ Waits
IsSameRenamed renames back Ended other = other ≡ Ended
IsSameRenamed renames back (Faulted kind place) other = other ≡ Faulted kind place

-- a step does the same under other numbers of blocks
abbrev pub DoStepsRename : Type 0
DoStepsRename = (renames back : ℕ → ℕ) (flow : Flow) (edge : FlowEdge) (state other : State) (choices : List Choice) →
    IsRenamedState renames back state other →
    IsSameRenamed renames back (step_along flow edge state choices) (step_along flow edge other choices)

-- and so does a run of so many steps
abbrev pub DoRunsRename : Type 0
DoRunsRename = (renames back : ℕ → ℕ) (flow : Flow) (steps : ℕ) (state other : State) (choices : List Choice) →
    IsRenamedState renames back state other →
    IsSameRenamed renames back (run steps flow state choices) (run steps flow other choices)
