-- What a step of the flow machine along an edge is for a graph.
use Rattle.std.specs.Prelude.{◌≡◌, ℕ, List, true, Contains}
use Rattle.std.specs.Option.{option_map_or}
use Rattle.cbase.specs.declared.place.Place.{Place}
use Rattle.bytes_core.specs.declared.word.Word.{Word}
use Rattle.choices.specs.declared.choice.Choice.{Choice}
use Rattle.graph.specs.State as graphs
use Rattle.flow.specs.declared.flow_graph.Flow.{Flow}
use Rattle.flow.specs.declared.flow_graph.FlowEdge.{FlowEdge}
use Rattle.flow.specs.Holding.{size_of}
use Rattle.flow.specs.Machine.{State, Went, Faulted, step_along}
use Rattle.flow.specs.RunStates.{IsRunState}
use Rattle.flow.specs.Standing.{stands_at}
use Rattle.flow.specs.Valid.{IsFlow}
use Rattle.edge_steps.specs.EdgeSteps.{is_ordinary, EdgeSteps, EdgeFaults}
use Rattle.edge_steps.specs.Seen.{seen, IsSame}

-- the size of what a register holds that stands at a point
abbrev pub sizes_at : Flow → ℕ → ℕ → ℕ
sizes_at flow point register = option_map_or (λ size. size) (size_of (stands_at flow point).registers register) 0

-- an edge of a flow graph, which is neither a call nor a return, at whose beginning a state of a run is
pub record IsAtEdge (flow : Flow) (edge : FlowEdge) (state : State) : Type 0 where
  pub flow_is : IsFlow flow
  pub among : Contains flow.edges edge
  pub ordinary : is_ordinary edge.instr ≡ true
  pub here : edge.from ≡ state.point
  pub runs : IsRunState flow state

-- with some choices the machine goes along the edge to a state of which this is seen, and leaves the others
pub record GoesTo (flow : Flow) (edge : FlowEdge) (ports : List Word) (state : State) (others : List Choice) (after : graphs.State) : Type 0 where
  pub choices : List Choice
  pub next : State
  pub goes : step_along flow edge state choices ≡ Went next others
  pub same : IsSame (seen ports next) after

pub record FaultsAt (flow : Flow) (edge : FlowEdge) (state : State) (kind : ℕ) : Type 0 where
  pub choices : List Choice
  pub faults : step_along flow edge state choices ≡ Faulted kind edge.place

-- a step of the machine along an edge is one of what is seen, and a fault is a fault; and each of these is one of the machine with some choices
pub record AreSeenSteps : Type 0 where
  pub steps : (flow : Flow) (edge : FlowEdge) (ports : List Word) (state next : State) (choices others : List Choice) → IsAtEdge flow edge state →
      step_along flow edge state choices ≡ Went next others → EdgeSteps flow (sizes_at flow edge.from) edge.instr (seen ports state) (seen ports next)
  pub faults : (flow : Flow) (edge : FlowEdge) (ports : List Word) (state : State) (choices : List Choice) (kind : ℕ) (place : Place) → IsAtEdge flow edge state →
      step_along flow edge state choices ≡ Faulted kind place → EdgeFaults edge.instr kind (seen ports state)
  pub back : (flow : Flow) (edge : FlowEdge) (ports : List Word) (state : State) (after : graphs.State) (others : List Choice) → IsAtEdge flow edge state →
      EdgeSteps flow (sizes_at flow edge.from) edge.instr (seen ports state) after → GoesTo flow edge ports state others after
  pub faults_back : (flow : Flow) (edge : FlowEdge) (ports : List Word) (state : State) (kind : ℕ) → IsAtEdge flow edge state →
      EdgeFaults edge.instr kind (seen ports state) → FaultsAt flow edge state kind
