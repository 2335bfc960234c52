-- What always holds of the states of a run, in one record.
use Rattle.std.specs.Prelude.{◌≡◌, ℕ, List, All, Contains}
use Rattle.choices.specs.declared.choice.Choice.{Choice}
use Rattle.flow.specs.declared.flow_graph.Flow.{Flow}
use Rattle.flow.specs.declared.flow_graph.FlowEdge.{FlowEdge}
use Rattle.flow.specs.Machine.{State, Went, step_along, step}
use Rattle.flow.specs.Runs.{start, run, then_go}
use Rattle.flow.specs.Keeping.{IsStateOf}
use Rattle.flow.specs.Fitting.{HasFittingValues}
use Rattle.flow.specs.Memories.{HasMemory, HasInitialOffset}
use Rattle.flow.specs.Valid.{IsFlow}

-- it has what stands, its values fit their sizes, and all that it has leads into its memory
pub record IsRunState (flow : Flow) (state : State) : Type 0 where
  pub stands : IsStateOf flow state
  pub fits : HasFittingValues state
  pub leads : HasMemory flow state

-- a step along an edge of the graph keeps that, and so does a step of the machine; each state of a run has it
pub record AreRunStates : Type 0 where
  pub edges : (flow : Flow) (edge : FlowEdge) (state next : State) (choices rest : List Choice) →
      IsFlow flow → Contains flow.edges edge → IsRunState flow state → step_along flow edge state choices ≡ Went next rest → IsRunState flow next
  pub steps : (flow : Flow) (state next : State) (choices rest : List Choice) →
      IsFlow flow → IsRunState flow state → step flow state choices ≡ Went next rest → IsRunState flow next
  pub runs : (flow : Flow) (state : State) (choices rest : List Choice) (steps : ℕ) →
      IsFlow flow → All (λ scalar. HasInitialOffset scalar.word) flow.initial → then_go (start flow choices) (run steps flow) ≡ Went state rest → IsRunState flow state
