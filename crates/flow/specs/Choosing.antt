-- The choices that steps take.
use Rattle.std.specs.Prelude.{◌≡◌, ◌≢◌, ℕ, ◌<◌, ◌≤◌, List, [], ◌∷◌, ◌++◌, length, take, drop, sum_by, All, Contains}
use Rattle.flow.specs.declared.instruction.Instr.{Instr}
use Rattle.flow.specs.declared.instruction.Instr.TheVariants.{Allocate, AllocateNone, Enter, Input, Call}
use Rattle.flow.specs.declared.flow_graph.Flow.{Flow}
use Rattle.flow.specs.declared.flow_graph.FlowEdge.{FlowEdge}
use Rattle.choices.specs.declared.choice.Choice.{Choice}
use Rattle.flow.specs.Machine.{State, Outcome, Went, Barred, Waits, Ended, Faulted, step_along}
use Rattle.flow.specs.Runs.{parameters_of, start, run, then_go}

-- how many choices an instruction asks for: one for each block that is made, and one for an input
abbrev pub choices_asked : Flow → Instr → ℕ
choices_asked flow (Allocate into bytes zeroed) = 1
choices_asked flow (AllocateNone into) = 1
choices_asked flow (Enter variables) = length variables
choices_asked flow (Input into size signed truth) = 1
choices_asked flow (Call function arguments into) = length (parameters_of flow function)
choices_asked flow instr = 0

-- the same outcome with more choices that are not taken yet
abbrev pub with_more : List Choice → Outcome → Outcome
with_more more (Went next rest) = Went next (rest ++ more)
with_more more Barred = Barred
with_more more Waits = Waits
with_more more Ended = Ended
with_more more (Faulted kind place) = Faulted kind place

-- an outcome is determined by the first so many choices
pub record IsByFirst (asked : ℕ) (outcome : List Choice → Outcome) : Type 0 where
  -- it is what it is with the first choices alone, but for the later ones, which are left
  pub first : (choices : List Choice) → outcome choices ≡ with_more (drop asked choices) (outcome (take asked choices))
  -- where it leaves a state, all the first ones are taken, and no later one
  pub taken : (choices : List Choice) (next : State) (rest : List Choice) → outcome choices ≡ Went next rest →
      (asked ≤ length choices) × (rest ≡ drop asked choices)
  -- it waits only where there are fewer
  pub waits : (choices : List Choice) → outcome choices ≡ Waits → length choices < asked
  -- where it does not wait, choices behind the others change nothing, and are left
  pub more : (choices more : List Choice) → outcome choices ≢ Waits → outcome (choices ++ more) ≡ with_more more (outcome choices)

-- a step along an edge is determined by as many choices as its instruction asks for
abbrev pub AreStepsByFirst : Type 0
AreStepsByFirst = (flow : Flow) (edge : FlowEdge) (state : State) → IsByFirst (choices_asked flow edge.instr) (step_along flow edge state)

-- steps along these edges, in order
abbrev pub run_along : Flow → List FlowEdge → State → List Choice → Outcome
run_along flow [] state choices = Went state choices
run_along flow (edge ∷ rest) state choices = then_go (step_along flow edge state choices) (run_along flow rest)

-- a run along edges is determined by as many choices as their instructions ask for
abbrev pub AreRunsByFirst : Type 0
AreRunsByFirst = (flow : Flow) (edges : List FlowEdge) (state : State) →
    IsByFirst (sum_by (λ edge. choices_asked flow edge.instr) edges) (run_along flow edges state)

-- a run of so many steps that leaves a state goes along as many edges of the graph
pub record GoesAlong (flow : Flow) (steps : ℕ) (state : State) (choices : List Choice) (next : State) (rest : List Choice) : Type 0 where
  pub edges : List FlowEdge
  pub all : All (Contains flow.edges) edges
  pub count : length edges ≡ steps
  pub goes : run_along flow edges state choices ≡ Went next rest

abbrev pub DoRunsGoAlong : Type 0
DoRunsGoAlong = (flow : Flow) (steps : ℕ) (state next : State) (choices rest : List Choice) →
    run steps flow state choices ≡ Went next rest → GoesAlong flow steps state choices next rest

-- where a run, or one from the start on, does not wait, choices behind the others change nothing, and are left
pub record DoRunsKeepMore : Type 0 where
  pub runs : (flow : Flow) (steps : ℕ) (state : State) (choices more : List Choice) → run steps flow state choices ≢ Waits →
      run steps flow state (choices ++ more) ≡ with_more more (run steps flow state choices)
  pub programs : (flow : Flow) (steps : ℕ) (choices more : List Choice) → then_go (start flow choices) (run steps flow) ≢ Waits →
      then_go (start flow (choices ++ more)) (run steps flow) ≡ with_more more (then_go (start flow choices) (run steps flow))
