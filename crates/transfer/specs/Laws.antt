-- What the start graph and posts say of runs without calls.
use Rattle.std.specs.Prelude.{◌≡◌, ℕ, Bool, true, List, [], Some, slice_get, Contains}
use Rattle.choices.specs.declared.choice.Choice.{Choice}
use Rattle.graph.specs.declared.parts.Parts.{Parts}
use Rattle.graph.specs.declared.post.Post.{Post}
use Rattle.graph.specs.AlikeStates.{AreAlikeStates}
use Rattle.graph.specs.Meaning.{StandsFor}
use Rattle.graph.specs.State as graphs
use Rattle.flow.specs.declared.flow_graph.Flow.{Flow}
use Rattle.flow.specs.declared.flow_graph.FlowEdge.{FlowEdge}
use Rattle.flow.specs.declared.instruction.Instr.{Instr}
use Rattle.flow.specs.Machine.{State, Went}
use Rattle.flow.specs.Runs.{start, StepsTo, FaultsAlong}
use Rattle.flow.specs.RunStates.{IsRunState}
use Rattle.flow.specs.Valid.{IsFlow}
use Rattle.edge_steps.specs.EdgeSteps.{is_ordinary}
use Rattle.edge_steps.specs.Seen.{seen}
use Rattle.settle.specs.Settled.{name_no_segment}
use Rattle.transfer.specs.Along.{IsPostAlong, is_full, is_full_along}
use Rattle.transfer.specs.Posts.{edge_post}
use Rattle.transfer.specs.Start.{IsStartGraph}
use Rattle.transfer.specs.Through.{goes_through}
use Rattle.transfer.specs.Together.{post_along}

-- a state of a run, with no callers and nothing outside
pub record IsOf (flow : Flow) (state : State) : Type 0 where
  pub run : IsRunState flow state
  pub callers : state.callers ≡ []
  pub outer : state.outer ≡ []

-- one of the graphs stands for what is seen of a state
pub record StandsAmong (graphs : List Parts) (state : State) : Type 0 where
  pub place : ℕ
  pub graph : Parts
  pub there : slice_get graphs place ≡ Some graph
  pub stands : StandsFor graph (seen [] state)

-- the start graph stands for each state in which a run begins
abbrev pub DoesStartStand : Type 0
DoesStartStand = (flow : Flow) (parts : Parts) (state : State) (choices rest : List Choice) → IsFlow flow → IsStartGraph flow parts → start flow choices ≡ Went state rest → StandsFor parts (seen [] state)

-- some run begins with a state that is alike this one, as a graph sees it
pub record IsBegunAlike (flow : Flow) (next : graphs.State) : Type 0 where
  pub choices : List Choice
  pub begun : State
  pub goes : start flow choices ≡ Went begun []
  pub there : ℕ → ℕ
  pub back : ℕ → ℕ
  pub paired : ℕ → Bool
  pub alike : AreAlikeStates there back paired next (seen [] begun)

-- and it stands for no other states, up to alike ones
abbrev pub IsStartExact : Type 0
IsStartExact = (flow : Flow) (parts : Parts) (next : graphs.State) → IsFlow flow → IsStartGraph flow parts → graphs.IsState next → StandsFor parts next → IsBegunAlike flow next

-- where a post does not name loss 4 beside a kind its graphs stand for each state that follows
abbrev pub DoPostsStand : Type 0
DoPostsStand = (flow : Flow) (number : ℕ) (edge : FlowEdge) (parts : Parts) (post : Post) (state next : State) → IsFlow flow → slice_get flow.edges number ≡ Some edge → is_ordinary edge.instr ≡ true →
    IsPostAlong flow edge parts post → (post.loss ≡ Some 4 → post.kinds ≡ []) → IsOf flow state → StandsFor parts (seen [] state) → StepsTo flow number state next → StandsAmong post.graphs next

-- a post has each kind that is met
abbrev pub DoPostsHave : Type 0
DoPostsHave = (flow : Flow) (number : ℕ) (edge : FlowEdge) (parts : Parts) (post : Post) (state : State) (kind : ℕ) → IsFlow flow → slice_get flow.edges number ≡ Some edge → is_ordinary edge.instr ≡ true →
    IsPostAlong flow edge parts post → IsOf flow state → StandsFor parts (seen [] state) → FaultsAlong flow number state kind → Contains post.kinds kind

-- the kinds of a post hang on the edge and the graph alone
abbrev pub AreKindsSame : Type 0
AreKindsSame = (flow : Flow) (edge : FlowEdge) (parts : Parts) (one other : Post) → IsPostAlong flow edge parts one → IsPostAlong flow edge parts other → one.kinds ≡ other.kinds

-- where no register through which an instruction goes names a segment the post is that of the table, and as full
abbrev pub IsUnsplitPost : Type 0
IsUnsplitPost = (flow : Flow) (instr : Instr) (parts : Parts) → name_no_segment (goes_through instr) parts ≡ true →
    (post_along flow instr parts ≡ edge_post flow instr parts) × (is_full_along instr parts ≡ is_full instr parts)
