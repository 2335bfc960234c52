-- The analysis: which graphs may stand at a point, which are the start, which data are a post, what covers what, what is made of a graph at a loop head.
use Rattle.std.specs.Prelude.{◌≡◌, ℕ, Bool, true, false, nat_lt, length, Some, slice_get}
use Rattle.graph.specs.declared.parts.Parts.{Parts}
use Rattle.graph.specs.declared.post.Post.{Post}
use Rattle.graph.specs.Whole.{IsGraph}
use Rattle.coarse.specs.Coarsened.{coarsened, is_coarse}
use Rattle.cover.specs.Covers.{Covers}
use Rattle.fold.specs.declared.fold.Fold.{Fold}
use Rattle.fold.specs.Foldable.{IsFoldable}
use Rattle.fold.specs.Folded.{folded}
use Rattle.graph.specs.Meaning.{StandsFor}
use Rattle.graph.specs.Renaming.{numbered}
use Rattle.graph.specs.State.{State}
use Rattle.flow.specs.declared.flow_graph.Flow.{Flow}
use Rattle.flow.specs.declared.flow_graph.FlowEdge.{FlowEdge}
use Rattle.tidying.specs.Tidied.{tidied}
use Rattle.transfer.specs.Fitting.{FitsAt}
use Rattle.transfer.specs.Start.{IsStartGraph}
use Rattle.trail.specs.Seen.{is_ordinary}
use Rattle.trail.specs.Analysis.{Analysis, Widening}
use Rattle.driver.specs.Leaving.{IsPostOf}

-- a graph with fewer objects than graphs may have, by far
abbrev pub is_small : Parts → Bool
is_small graph = nat_lt (length graph.objects) 1000000000

-- a graph that may stand at a point
pub record IsPlaced (flow : Flow) (point : ℕ) (graph : Parts) : Type 0 where
  pub graph_is : IsGraph graph
  pub small : is_small graph ≡ true
  pub fits : FitsAt flow point graph

-- what is left of a post along the edge of a number, which is neither a call nor a return
pub record IsPostThere (flow : Flow) (number : ℕ) (graph : Parts) (post : Post) : Type 0 where
  pub edge : FlowEdge
  pub stands : slice_get flow.edges number ≡ Some edge
  pub ordinary : is_ordinary edge.instr ≡ true
  pub is : IsPostOf flow edge graph post

abbrev pub driven : Analysis
driven = record {
  fits = λ flow point graph. IsPlaced flow point graph;
  is_start = λ flow graph. IsStartGraph flow graph;
  is_post = λ flow number graph post. IsPostThere flow number graph post;
  covers = λ wide narrow. Covers wide narrow;
}

-- what is left of a graph that holds constants beyond the limit, where these are forgotten
pub record IsForgotten (limit : ℕ) (graph after : Parts) : Type 0 where
  pub holds : is_coarse limit graph ≡ false
  pub is : after ≡ coarsened limit graph

-- no two objects are foldable
abbrev pub IsUnfoldable : Parts → Type 0
IsUnfoldable graph = (fold : Fold) → IsFoldable graph fold → ⊥

-- two neighbours of a list are one segment, without what nothing holds then, where no constant is to be forgotten; it stands for all that the graph stands for
pub record IsFolded (limit : ℕ) (graph after : Parts) : Type 0 where
  pub coarse : is_coarse limit graph ≡ true
  pub fold : Fold
  pub foldable : IsFoldable graph fold
  pub is : after ≡ tidied (numbered (folded fold graph))
  pub means : (state : State) → StandsFor graph state → StandsFor after state

-- there is nothing to forget, and nothing to fold
abbrev pub IsReducedTo : ℕ → Parts → Type 0
IsReducedTo limit graph = (is_coarse limit graph ≡ true) × IsUnfoldable graph

-- at a loop head constants beyond the limit are forgotten, and then one fold is made after the other
abbrev pub widening : ℕ → Widening
widening limit = record {
  is_fold = λ graph after. IsFolded limit graph after;
  is_coarse = λ graph after. IsForgotten limit graph after;
  is_reduced = λ graph. IsReducedTo limit graph;
}
