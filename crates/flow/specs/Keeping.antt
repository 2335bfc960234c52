-- The states of a flow graph: those that have what stands at their points.
use Rattle.std.specs.Prelude.{◌≡◌, ℕ, List, [], ◌∷◌, map, Option, None, Some, slice_get, IsTrue, Contains}
use Rattle.std.specs.Option.{option_map}
use Rattle.flow.specs.declared.flow_graph.Flow.{Flow}
use Rattle.flow.specs.declared.flow_graph.FlowEdge.{FlowEdge}
use Rattle.flow.specs.declared.flow_graph.FlowFunction.{FlowFunction}
use Rattle.flow.specs.declared.flow_graph.Standing.{Standing}
use Rattle.flow.specs.declared.flow_graph.Width.{Width}
use Rattle.flow.specs.Holding.{Owned, width}
use Rattle.choices.specs.declared.choice.Choice.{Choice}
use Rattle.flow.specs.Machine.{Frame, Caller, State, Went, step_along}
use Rattle.flow.specs.Runs.{start, run, then_go}
use Rattle.flow.specs.Standing.{stands_at, result_size, with_filled}
use Rattle.flow.specs.Valid.{Reached, IsFlow}
use Rattle.flow.specs.Walks.{is_return}

-- the numbers of variables that stand
abbrev pub variables_of : List Owned → List ℕ
variables_of owned = map (λ one. one.variable) owned

-- the variables of a frame are those that stand, and its registers hold values of the sizes that stand
pub record HasWhatStands (frame : Frame) (standing : Standing) : Type 0 where
  pub variables : variables_of frame.variables ≡ standing.variables
  pub registers : map width frame.registers ≡ standing.registers

-- the register that gets the result of a call, and the result's size
abbrev pub result_width : Option ℕ → Option ℕ → Option Width
result_width None size = None
result_width (Some into) size = option_map (λ size. record { register = into; size = size }) size

-- a caller waits for a function whose frame is at this point; with the result it has what stands where it goes on
pub record IsCallerAt (flow : Flow) (point : ℕ) (caller : Caller) : Type 0 where
  pub number : ℕ
  pub function : FlowFunction
  pub called : slice_get flow.functions number ≡ Some function
  pub within : Reached flow function.entry point
  pub variables : variables_of caller.frame.variables ≡ (stands_at flow caller.point).variables
  pub registers : with_filled (result_width caller.into (result_size flow number)) (map width caller.frame.registers)
      ≡ (stands_at flow caller.point).registers

-- each caller waits for the function above it; the one in work is at this point
abbrev pub AreCallersAt : Flow → ℕ → List Caller → Type 0
AreCallersAt flow point [] = Unit {0}
AreCallersAt flow point (caller ∷ callers) = IsCallerAt flow point caller × AreCallersAt flow caller.point callers

-- a state of a flow graph: the frame in work has what stands at its point, and each caller what stands where it goes
-- on, but for the result
pub record IsStateOf (flow : Flow) (state : State) : Type 0 where
  pub frame : HasWhatStands state.frame (stands_at flow state.point)
  pub callers : AreCallersAt flow state.point state.callers

-- a step along an edge of the graph leaves a state of the graph
abbrev pub DoStepsKeep : Type 0
DoStepsKeep = (flow : Flow) (edge : FlowEdge) (state next : State) (choices rest : List Choice) →
    IsFlow flow → Contains flow.edges edge → IsStateOf flow state → step_along flow edge state choices ≡ Went next rest → IsStateOf flow next

-- a run begins with a state of the graph
abbrev pub DoStartsKeep : Type 0
DoStartsKeep = (flow : Flow) (state : State) (choices rest : List Choice) → IsFlow flow → start flow choices ≡ Went state rest → IsStateOf flow state

-- each state of a run is one of the graph
abbrev pub DoRunsKeep : Type 0
DoRunsKeep = (flow : Flow) (state : State) (choices rest : List Choice) (steps : ℕ) →
    IsFlow flow → then_go (start flow choices) (run steps flow) ≡ Went state rest → IsStateOf flow state

-- where a function goes back no variable of its frame is left: each was left before, with a look for lost memory
abbrev pub DoReturnsLeaveNothing : Type 0
DoReturnsLeaveNothing = (flow : Flow) (edge : FlowEdge) (state : State) →
    IsFlow flow → Contains flow.edges edge → edge.from ≡ state.point → IsTrue (is_return edge.instr) → IsStateOf flow state → state.frame.variables ≡ []
