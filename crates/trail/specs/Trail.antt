-- Honest and closed trails.
use Rattle.std.specs.Prelude.{◌≡◌, ℕ, List, true, false, Option, None, Some, slice_get, take, Contains}
use Rattle.graph.specs.declared.parts.Parts.{Parts}
use Rattle.graph.specs.declared.post.Post.{Post}
use Rattle.graph.specs.Meaning.{StandsFor}
use Rattle.cbase.specs.declared.place.Place.{Place}
use Rattle.choices.specs.declared.choice.Choice.{Choice}
use Rattle.flow.specs.declared.flow_graph.Flow.{Flow}
use Rattle.flow.specs.declared.flow_graph.FlowEdge.{FlowEdge}
use Rattle.flow.specs.InRange.{entry_of}
use Rattle.flow.specs.Machine.{State, Went}
use Rattle.flow.specs.Runs.{start, run, then_go}
use Rattle.trail.specs.declared.trail.Cause.{Cause}
use Rattle.trail.specs.declared.trail.Cause.TheVariants.{Start, Step, Fold, Coarse}
use Rattle.trail.specs.declared.trail.Entry.{Entry}
use Rattle.trail.specs.Seen.{is_ordinary, seen, IsHead}
use Rattle.trail.specs.Analysis.{Analysis, Widening, Fits, IsStart, IsPost, Covers, IsFold, IsCoarse, IsReduced, IsTame}

-- the entry of that number
abbrev pub At : List Entry → ℕ → Entry → Type 0
At trail number entry = slice_get trail number ≡ Some entry

-- an entry is the graph of that number of a post of an earlier one
pub record IsResult (analysis : Analysis) (flow : Flow) (before : List Entry) (entry : Entry) (from number result : ℕ) (loss : Option ℕ) : Type 0 where
  pub earlier : Entry
  pub there : At before from earlier
  pub kept : earlier.kept ≡ true
  pub edge : FlowEdge
  pub stands : slice_get flow.edges number ≡ Some edge
  pub ordinary : is_ordinary edge.instr ≡ true
  pub leaves : edge.from ≡ earlier.point
  pub arrives : entry.point ≡ edge.to
  pub post : Post
  pub is : IsPost analysis flow number earlier.graph post
  pub graph : slice_get post.graphs result ≡ Some entry.graph
  pub loss_is : post.loss ≡ loss

-- an entry is made of an earlier one that is not kept and stands at the same loop head
pub record IsMadeOf (Makes : Parts → Parts → Type 0) (flow : Flow) (before : List Entry) (entry : Entry) (from : ℕ) : Type 0 where
  pub earlier : Entry
  pub there : At before from earlier
  pub unkept : earlier.kept ≡ false
  pub head : IsHead flow earlier.point
  pub stays : entry.point ≡ earlier.point
  pub is : Makes earlier.graph entry.graph

-- what a cause says of its entry
abbrev pub Made : Analysis → Widening → Flow → List Entry → Entry → Cause → Type 0
Made analysis widening flow before entry Start = (entry.point ≡ entry_of flow flow.main) × IsStart analysis flow entry.graph
Made analysis widening flow before entry (Step from number result loss) = IsResult analysis flow before entry from number result loss
Made analysis widening flow before entry (Fold from) = IsMadeOf (IsFold widening) flow before entry from
Made analysis widening flow before entry (Coarse from) = IsMadeOf (IsCoarse widening) flow before entry from

pub record IsHonest (analysis : Analysis) (widening : Widening) (flow : Flow) (before : List Entry) (entry : Entry) : Type 0 where
  pub fits : Fits analysis flow entry.point entry.graph
  pub made : Made analysis widening flow before entry entry.cause
  -- a kept entry was covered by none at its point that was kept then
  pub uncovered : entry.kept ≡ true → (number : ℕ) (earlier : Entry) → At before number earlier → earlier.kept ≡ true →
      earlier.point ≡ entry.point → Covers analysis earlier.graph entry.graph → ⊥
  -- and at a loop head it is reduced
  pub reduced : entry.kept ≡ true → IsHead flow entry.point → IsReduced widening entry.graph
  -- no two entries have one cause
  pub new : (number : ℕ) (earlier : Entry) → At before number earlier → earlier.cause ≡ entry.cause → ⊥

abbrev pub AreHonest : Analysis → Widening → Flow → List Entry → Type 0
AreHonest analysis widening flow trail = (number : ℕ) (entry : Entry) → At trail number entry → IsHonest analysis widening flow (take number trail) entry

-- a kept entry at the same point covers the entry
pub record IsCovered (analysis : Analysis) (trail : List Entry) (entry : Entry) : Type 0 where
  pub number : ℕ
  pub other : Entry
  pub there : At trail number other
  pub kept : other.kept ≡ true
  pub point : other.point ≡ entry.point
  pub covers : Covers analysis other.graph entry.graph

-- an entry is kept, a kept one covers it, or a fold or a coarsening that was made of it is settled in turn
pub data IsSettled (analysis : Analysis) (trail : List Entry) : ℕ → Type 0 where
  SettledKept : (number : ℕ) (entry : Entry) → At trail number entry → entry.kept ≡ true → IsSettled analysis trail number
  SettledCovered : (number : ℕ) (entry : Entry) → At trail number entry → IsCovered analysis trail entry → IsSettled analysis trail number
  SettledFold : (number later : ℕ) (entry : Entry) → At trail later entry → entry.cause ≡ Fold number → IsSettled analysis trail later → IsSettled analysis trail number
  SettledCoarse : (number later : ℕ) (entry : Entry) → At trail later entry → entry.cause ≡ Coarse number → IsSettled analysis trail later → IsSettled analysis trail number

-- an entry with that cause, point and graph stands in the trail
pub record StandsAsStep (trail : List Entry) (cause : Cause) (point : ℕ) (graph : Parts) : Type 0 where
  pub number : ℕ
  pub entry : Entry
  pub there : At trail number entry
  pub cause_is : entry.cause ≡ cause
  pub point_is : entry.point ≡ point
  pub graph_is : entry.graph ≡ graph

-- all graphs of a post of the entry along this edge stand in the trail
pub record IsDone (analysis : Analysis) (flow : Flow) (trail : List Entry) (from : ℕ) (entry : Entry) (number : ℕ) (edge : FlowEdge) : Type 0 where
  pub post : Post
  pub is : IsPost analysis flow number entry.graph post
  pub all : (result : ℕ) (graph : Parts) → slice_get post.graphs result ≡ Some graph →
      StandsAsStep trail (Step from number result post.loss) edge.to graph

-- and so it is of each edge out of the entry's point
abbrev pub IsExpanded : Analysis → Flow → List Entry → ℕ → Entry → Type 0
IsExpanded analysis flow trail from entry =
    (number : ℕ) (edge : FlowEdge) → slice_get flow.edges number ≡ Some edge → is_ordinary edge.instr ≡ true → edge.from ≡ entry.point →
    IsDone analysis flow trail from entry number edge

pub record IsClosed (analysis : Analysis) (flow : Flow) (trail : List Entry) : Type 0 where
  pub begins : (number : ℕ) × (entry : Entry) × At trail number entry × (entry.cause ≡ Start)
  pub settled : (number : ℕ) (entry : Entry) → At trail number entry → IsSettled analysis trail number
  pub expanded : (number : ℕ) (entry : Entry) → At trail number entry → entry.kept ≡ true → IsExpanded analysis flow trail number entry

-- a post of the entry along this edge has the kind
pub record HasKind (analysis : Analysis) (flow : Flow) (entry : Entry) (number kind : ℕ) : Type 0 where
  pub edge : FlowEdge
  pub stands : slice_get flow.edges number ≡ Some edge
  pub leaves : edge.from ≡ entry.point
  pub post : Post
  pub is : IsPost analysis flow number entry.graph post
  pub has : Contains post.kinds kind

-- no post of a kept entry has a kind
abbrev pub IsClean : Analysis → Flow → List Entry → Type 0
IsClean analysis flow trail = (at : ℕ) (entry : Entry) (number kind : ℕ) → At trail at entry → entry.kept ≡ true → HasKind analysis flow entry number kind → ⊥

-- each post of a kept entry is tame
abbrev pub AreTame : Analysis → Flow → List Entry → Type 0
AreTame analysis flow trail = (at : ℕ) (entry : Entry) (number : ℕ) (edge : FlowEdge) (post : Post) → At trail at entry → entry.kept ≡ true →
    slice_get flow.edges number ≡ Some edge → edge.from ≡ entry.point → IsPost analysis flow number entry.graph post → IsTame post

-- a post of a kept entry has the kind, along an edge of that place
pub record IsFaultTold (analysis : Analysis) (flow : Flow) (trail : List Entry) (kind : ℕ) (place : Place) : Type 0 where
  pub number : ℕ
  pub entry : Entry
  pub there : At trail number entry
  pub kept : entry.kept ≡ true
  pub edge : ℕ
  pub has : HasKind analysis flow entry edge kind
  pub place_is : place ≡ has.edge.place

-- a kept entry at a state's point stands for it
pub record IsHeld (trail : List Entry) (state : State) : Type 0 where
  pub number : ℕ
  pub entry : Entry
  pub there : At trail number entry
  pub kept : entry.kept ≡ true
  pub point : entry.point ≡ state.point
  pub stands : StandsFor entry.graph (seen state)

-- and so it is of each state of a run
abbrev pub DoRunsStay : Flow → List Entry → Type 0
DoRunsStay flow trail = (steps : ℕ) (choices rest : List Choice) (state : State) → then_go (start flow choices) (run steps flow) ≡ Went state rest → IsHeld trail state

-- a chain of steps without loss
pub data IsReal (trail : List Entry) : ℕ → Type 0 where
  RealStart : (number : ℕ) (entry : Entry) → At trail number entry → entry.cause ≡ Start → IsReal trail number
  RealStep : (number from edge result : ℕ) (entry : Entry) → At trail number entry → entry.cause ≡ Step from edge result None → IsReal trail from → IsReal trail number
