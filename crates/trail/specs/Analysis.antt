-- What the crates below promise to a trail.
use Rattle.std.specs.Prelude.{◌≡◌, ℕ, Bool, true, List, [], None, Some, slice_get, Contains}
use Rattle.graph.specs.declared.parts.Parts.{Parts}
use Rattle.graph.specs.declared.post.Post.{Post}
use Rattle.graph.specs.Meaning.{StandsFor}
use Rattle.graph.specs.State as graphs
use Rattle.flow.specs.declared.flow_graph.Flow.{Flow}
use Rattle.flow.specs.declared.flow_graph.FlowEdge.{FlowEdge}
use Rattle.choices.specs.declared.choice.Choice.{Choice}
use Rattle.flow.specs.Machine.{State, Went}
use Rattle.flow.specs.Runs.{start, StepsTo, FaultsAlong}
use Rattle.trail.specs.Seen.{seen, IsOf, is_ordinary}

-- which graphs may stand at a point, which are main's start, which data are a post of a graph along an edge, and what covers what
pub record Analysis : Type 1 where
  pub fits : Flow → ℕ → Parts → Type 0
  pub is_start : Flow → Parts → Type 0
  pub is_post : Flow → ℕ → Parts → Post → Type 0
  pub covers : Parts → Parts → Type 0

abbrev pub Fits : Analysis → Flow → ℕ → Parts → Type 0
Fits analysis flow point graph = analysis.fits flow point graph

abbrev pub IsStart : Analysis → Flow → Parts → Type 0
IsStart analysis flow graph = analysis.is_start flow graph

abbrev pub IsPost : Analysis → Flow → ℕ → Parts → Post → Type 0
IsPost analysis flow number graph post = analysis.is_post flow number graph post

abbrev pub Covers : Analysis → Parts → Parts → Type 0
Covers analysis wide narrow = analysis.covers wide narrow

-- what is made of graphs at loop heads: which graph is a fold of another one, which is what is left of another one where constants beyond a limit are forgotten, and of which there is
-- neither
pub record Widening : Type 1 where
  pub is_fold : Parts → Parts → Type 0
  pub is_coarse : Parts → Parts → Type 0
  pub is_reduced : Parts → Type 0

abbrev pub IsFold : Widening → Parts → Parts → Type 0
IsFold widening graph after = widening.is_fold graph after

abbrev pub IsCoarse : Widening → Parts → Parts → Type 0
IsCoarse widening graph after = widening.is_coarse graph after

abbrev pub IsReduced : Widening → Parts → Type 0
IsReduced widening graph = widening.is_reduced graph

-- the same as tests
pub record Tests : Type 0 where
  pub fits : Flow → ℕ → Parts → Bool
  pub start : Flow → Parts → Bool
  pub post : Flow → ℕ → Parts → Post → Bool
  pub covers : Parts → Parts → Bool
  pub fold : Parts → Parts → Bool
  pub coarse : Parts → Parts → Bool
  pub reduced : Parts → Bool
  pub near : graphs.State → State → Bool
  pub sharp : Parts → Bool

abbrev pub tested : Tests → Analysis
tested tests = record {
  fits = λ flow point graph. tests.fits flow point graph ≡ true;
  is_start = λ flow graph. tests.start flow graph ≡ true;
  is_post = λ flow number graph post. tests.post flow number graph post ≡ true;
  covers = λ wide narrow. tests.covers wide narrow ≡ true;
}

abbrev pub widened : Tests → Widening
widened tests = record {
  is_fold = λ graph after. tests.fold graph after ≡ true;
  is_coarse = λ graph after. tests.coarse graph after ≡ true;
  is_reduced = λ graph. tests.reduced graph ≡ true;
}

-- one of these graphs stands for the state
pub record StandsAmong (graphs : List Parts) (state : State) : Type 0 where
  pub number : ℕ
  pub graph : Parts
  pub there : slice_get graphs number ≡ Some graph
  pub stands : StandsFor graph (seen state)

-- no loss 4 beside a kind: that is an access through any word, which has no graph for what goes on
abbrev pub IsTame : Post → Type 0
IsTame post = post.loss ≡ Some 4 → post.kinds ≡ []

-- nothing is left out of graphs that fit where they stand: a post along an edge has each kind that is met, and a tame one stands for all that follows; what covers a graph, is a fold of it or what
-- is left of it stands for all for which it stands
pub record IsSound (analysis : Analysis) (widening : Widening) (flow : Flow) : Type 0 where
  pub start : (graph : Parts) (state : State) (choices rest : List Choice) →
      IsStart analysis flow graph → start flow choices ≡ Went state rest → StandsFor graph (seen state)
  pub steps : (number : ℕ) (edge : FlowEdge) (graph : Parts) (post : Post) (state next : State) →
      slice_get flow.edges number ≡ Some edge → is_ordinary edge.instr ≡ true → Fits analysis flow edge.from graph → IsPost analysis flow number graph post →
      IsTame post → IsOf flow state → StandsFor graph (seen state) → StepsTo flow number state next → StandsAmong post.graphs next
  pub faults : (number : ℕ) (edge : FlowEdge) (graph : Parts) (post : Post) (state : State) (kind : ℕ) →
      slice_get flow.edges number ≡ Some edge → is_ordinary edge.instr ≡ true → Fits analysis flow edge.from graph → IsPost analysis flow number graph post →
      IsOf flow state → StandsFor graph (seen state) → FaultsAlong flow number state kind → Contains post.kinds kind
  pub covers : (point : ℕ) (wide narrow : Parts) (state : State) → Fits analysis flow point wide → Covers analysis wide narrow → StandsFor narrow (seen state) → StandsFor wide (seen state)
  pub folds : (point : ℕ) (graph after : Parts) (state : State) → Fits analysis flow point graph → IsFold widening graph after → StandsFor graph (seen state) → StandsFor after (seen state)
  pub coarsens : (point : ℕ) (graph after : Parts) (state : State) → Fits analysis flow point graph → IsCoarse widening graph after → StandsFor graph (seen state) → StandsFor after (seen state)

-- which states of a run are near a state as a graph sees it: those that no step without loss tells from it; and of which graphs this is so
pub record Nearness : Type 1 where
  pub is : graphs.State → State → Type 0
  pub sharp : Parts → Type 0

abbrev pub IsNear : Nearness → graphs.State → State → Type 0
IsNear nearness wanted state = nearness.is wanted state

abbrev pub IsSharp : Nearness → Parts → Type 0
IsSharp nearness graph = nearness.sharp graph

abbrev pub near_by : Tests → Nearness
near_by tests = record { is = λ wanted state. tests.near wanted state ≡ true; sharp = λ graph. tests.sharp graph ≡ true }

-- some run begins near this state
pub record IsBegun (nearness : Nearness) (flow : Flow) (next : graphs.State) : Type 0 where
  pub begun : State
  pub choices : List Choice
  pub goes : start flow choices ≡ Went begun []
  pub near : IsNear nearness next begun

-- a step of this state along an edge leads near the next one
pub record GoesNear (nearness : Nearness) (flow : Flow) (number : ℕ) (next : graphs.State) (state : State) : Type 0 where
  pub gone : State
  pub steps : StepsTo flow number state gone
  pub near : IsNear nearness next gone

-- the graph stands for a state before, and each state of a run near that one goes along the edge, near the next one
pub record IsLedTo (nearness : Nearness) (flow : Flow) (number : ℕ) (edge : FlowEdge) (graph : Parts) (next : graphs.State) : Type 0 where
  pub before : graphs.State
  pub is : graphs.IsState before
  pub stands : StandsFor graph before
  pub goes : (state : State) → IsOf flow state → state.point ≡ edge.from → IsNear nearness before state → GoesNear nearness flow number next state

-- the graph stands for a state, and each state of a run near that one meets the fault along the edge
pub record IsFaulting (nearness : Nearness) (flow : Flow) (number : ℕ) (edge : FlowEdge) (graph : Parts) (kind : ℕ) : Type 0 where
  pub before : graphs.State
  pub is : graphs.IsState before
  pub stands : StandsFor graph before
  pub faults : (state : State) → IsOf flow state → state.point ≡ edge.from → IsNear nearness before state → FaultsAlong flow number state kind

-- and nothing is added where no loss is named and the graph fits and is sharp: near each state that the start and such posts stand for comes a run, and each kind of a post is met near some state; and
-- the start and the graphs of such posts are sharp
pub record IsExact (analysis : Analysis) (nearness : Nearness) (flow : Flow) : Type 0 where
  pub start : (graph : Parts) (next : graphs.State) → IsStart analysis flow graph → graphs.IsState next → StandsFor graph next → IsBegun nearness flow next
  pub steps : (number : ℕ) (edge : FlowEdge) (graph : Parts) (post : Post) (result : ℕ) (after : Parts) (next : graphs.State) →
      slice_get flow.edges number ≡ Some edge → Fits analysis flow edge.from graph → IsSharp nearness graph → IsPost analysis flow number graph post → post.loss ≡ None →
      slice_get post.graphs result ≡ Some after → graphs.IsState next → StandsFor after next → IsLedTo nearness flow number edge graph next
  pub faults : (number : ℕ) (edge : FlowEdge) (graph : Parts) (post : Post) (kind : ℕ) →
      slice_get flow.edges number ≡ Some edge → Fits analysis flow edge.from graph → IsSharp nearness graph → IsPost analysis flow number graph post → Contains post.kinds kind →
      IsFaulting nearness flow number edge graph kind
  pub begins : (graph : Parts) → IsStart analysis flow graph → IsSharp nearness graph
  pub leads : (number : ℕ) (edge : FlowEdge) (graph : Parts) (post : Post) (result : ℕ) (after : Parts) →
      slice_get flow.edges number ≡ Some edge → Fits analysis flow edge.from graph → IsSharp nearness graph → IsPost analysis flow number graph post → post.loss ≡ None →
      slice_get post.graphs result ≡ Some after → IsSharp nearness after
