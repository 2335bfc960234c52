-- What the post of an edge says of the flow machine.
use Rattle.std.specs.Prelude.{◌≡◌, ℕ, List, [], Some, Contains}
use Rattle.cbase.specs.declared.place.Place.{Place}
use Rattle.choices.specs.declared.choice.Choice.{Choice}
use Rattle.graph.specs.declared.parts.Parts.{Parts}
use Rattle.graph.specs.declared.post.Post.{Post}
use Rattle.graph.specs.Meaning.{StandsFor}
use Rattle.changes.specs.Posted.{SomeStandsFor}
use Rattle.flow.specs.declared.flow_graph.Flow.{Flow}
use Rattle.flow.specs.declared.flow_graph.FlowEdge.{FlowEdge}
use Rattle.flow.specs.Machine.{State, Went, Faulted, step_along}
use Rattle.edge_steps.specs.Laws.{IsAtEdge}
use Rattle.edge_steps.specs.Seen.{seen}
use Rattle.transfer.specs.Means.{EdgeMeans}

-- a state of a run at the beginning of an edge, with no callers and nothing outside, for which a graph stands
pub record IsStoodFor (flow : Flow) (edge : FlowEdge) (parts : Parts) (state : State) : Type 0 where
  pub at_edge : IsAtEdge flow edge state
  pub callers : state.callers ≡ []
  pub outer : state.outer ≡ []
  pub stands : StandsFor parts (seen [] state)

-- but where loss 4 is named beside a kind, for an access through any word, the graphs of the post stand for each state to which the machine goes along the edge; and each fault that it
-- meets there is listed
pub record ArePostsSound : Type 0 where
  pub steps : (flow : Flow) (edge : FlowEdge) (parts : Parts) (post : Post) (state next : State) (choices others : List Choice) →
      EdgeMeans flow edge.from edge.instr parts post → IsStoodFor flow edge parts state → step_along flow edge state choices ≡ Went next others → (post.loss ≡ Some 4 → post.kinds ≡ []) → SomeStandsFor post.graphs (seen [] next)
  pub faults : (flow : Flow) (edge : FlowEdge) (parts : Parts) (post : Post) (state : State) (choices : List Choice) (kind : ℕ) (place : Place) →
      EdgeMeans flow edge.from edge.instr parts post → IsStoodFor flow edge parts state → step_along flow edge state choices ≡ Faulted kind place → Contains post.kinds kind
