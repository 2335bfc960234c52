-- What holds of the trail while it is made.
--
-- The trail is its own list of work: entry `at` is the next to expand, and all before it are done.
use Rattle.std.specs.Prelude.{◌≡◌, ℕ, ◌<◌, List, [], ◌∷◌, ◌++◌, length, Bool, true, false, Some, slice_get, ◌⊎◌}
use Rattle.graph.specs.declared.parts.Parts.{Parts}
use Rattle.graph.specs.declared.post.Post.{Post}
use Rattle.flow.specs.declared.flow_graph.Flow.{Flow}
use Rattle.flow.specs.declared.flow_graph.FlowEdge.{FlowEdge}
use Rattle.trail.specs.declared.trail.Cause.{Cause}
use Rattle.trail.specs.declared.trail.Cause.TheVariants.{Start, Step, Fold, Coarse}
use Rattle.trail.specs.declared.trail.Entry.{Entry}
use Rattle.trail.specs.Seen.{is_ordinary, IsHead}
use Rattle.trail.specs.Analysis.{Analysis, Widening, Fits, Covers, IsFold, IsCoarse, IsReduced}
use Rattle.trail.specs.Trail.{At, Made, AreHonest, IsCovered, IsSettled, StandsAsStep, IsDone, IsExpanded}

pub record IsWorked (analysis : Analysis) (widening : Widening) (flow : Flow) (trail : List Entry) (at : ℕ) : Type 0 where
  pub honest : AreHonest analysis widening flow trail
  pub begins : (entry : Entry) × At trail 0 entry × (entry.cause ≡ Start)
  pub settled : (number : ℕ) (entry : Entry) → At trail number entry → IsSettled analysis trail number
  pub expanded : (number : ℕ) (entry : Entry) → number < at → At trail number entry → entry.kept ≡ true → IsExpanded analysis flow trail number entry

-- the first `count` edges of the flow graph are done for the entry
pub record AreEdgesDone (analysis : Analysis) (flow : Flow) (trail : List Entry) (at : ℕ) (entry : Entry) (count : ℕ) : Type 0 where
  pub done : (number : ℕ) (edge : FlowEdge) → number < count → slice_get flow.edges number ≡ Some edge → is_ordinary edge.instr ≡ true →
      edge.from ≡ entry.point → IsDone analysis flow trail at entry number edge

-- the first `count` graphs of a post stand in the trail
pub record AreResultsDone (trail : List Entry) (at number : ℕ) (edge : FlowEdge) (post : Post) (count : ℕ) : Type 0 where
  pub done : (result : ℕ) (graph : Parts) → result < count → slice_get post.graphs result ≡ Some graph →
      StandsAsStep trail (Step at number result post.loss) edge.to graph

-- a cause comes before that of a result of an edge of an entry
abbrev pub IsBefore : Cause → ℕ → ℕ → ℕ → Type 0
IsBefore Start at number result = Unit {0}
IsBefore (Fold from) at number result = Unit {0}
IsBefore (Coarse from) at number result = Unit {0}
IsBefore (Step from edge which loss) at number result = (from < at) ⊎ ((from ≡ at) × ((edge < number) ⊎ ((edge ≡ number) × (which < result))))

-- and so do all causes
pub record AreBefore (trail : List Entry) (at number result : ℕ) : Type 0 where
  pub before : (place : ℕ) (entry : Entry) → At trail place entry → IsBefore entry.cause at number result

abbrev pub candidate : ℕ → Cause → Parts → Bool → Entry
candidate point cause graph kept = record { point = point; cause = cause; graph = graph; kept = kept }

-- an entry may come next with this cause and graph
pub record IsOffered (analysis : Analysis) (widening : Widening) (flow : Flow) (trail : List Entry) (point : ℕ) (cause : Cause) (graph : Parts) : Type 0 where
  pub fits : Fits analysis flow point graph
  pub made : (kept : Bool) → Made analysis widening flow trail (candidate point cause graph kept) cause
  pub new : (number : ℕ) (earlier : Entry) → At trail number earlier → earlier.cause ≡ cause → ⊥

-- no kept entry at the point covers the graph
abbrev pub IsFree : Analysis → List Entry → ℕ → Parts → Type 0
IsFree analysis trail point graph = (number : ℕ) (earlier : Entry) → At trail number earlier → earlier.kept ≡ true → earlier.point ≡ point → Covers analysis earlier.graph graph → ⊥

-- at a loop head entries that are not kept, each made of the one before it, and what is made of the last one; at first what is offered itself
pub data Pends (analysis : Analysis) (widening : Widening) (flow : Flow) (point : ℕ) (trail : List Entry) (cause : Cause) (graph : Parts) : List Entry → Cause → Parts → Type 0 where
  PendsNone : (pending : List Entry) (last : Cause) (after : Parts) → pending ≡ [] → last ≡ cause → after ≡ graph → Pends analysis widening flow point trail cause graph pending last after
  PendsFold : (before : List Entry) (last next : Cause) (wide after : Parts) (pending : List Entry) → Pends analysis widening flow point trail cause graph before last wide →
      pending ≡ before ++ candidate point last wide false ∷ [] → next ≡ Fold (length (trail ++ before)) → IsHead flow point → IsFold widening wide after → Fits analysis flow point after →
      Pends analysis widening flow point trail cause graph pending next after
  PendsCoarse : (before : List Entry) (last next : Cause) (wide after : Parts) (pending : List Entry) → Pends analysis widening flow point trail cause graph before last wide →
      pending ≡ before ++ candidate point last wide false ∷ [] → next ≡ Coarse (length (trail ++ before)) → IsHead flow point → IsCoarse widening wide after → Fits analysis flow point after →
      Pends analysis widening flow point trail cause graph pending next after

-- one entry more, which is kept or covered, behind those of which it was made
pub record Grows (analysis : Analysis) (widening : Widening) (flow : Flow) (point : ℕ) (trail : List Entry) (cause : Cause) (graph : Parts) (more : List Entry) : Type 0 where
  pub pending : List Entry
  pub last : Cause
  pub after : Parts
  pub kept : Bool
  pub pends : Pends analysis widening flow point trail cause graph pending last after
  pub more_is : more ≡ pending ++ candidate point last after kept ∷ []
  pub settled : (kept ≡ true) ⊎ IsCovered analysis (trail ++ pending) (candidate point last after kept)
  pub free : kept ≡ true → IsFree analysis (trail ++ pending) point after
  pub reduced : kept ≡ true → IsHead flow point → IsReduced widening after
