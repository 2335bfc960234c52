-- What alike states do along an edge.
use Rattle.std.specs.Prelude.{◌≡◌, ℕ, Bool, None}
use Rattle.graph.specs.declared.parts.Parts.{Parts}
use Rattle.graph.specs.declared.post.Post.{Post}
use Rattle.graph.specs.AlikeStates.{AreAlikeStates}
use Rattle.graph.specs.Meaning.{StandsFor}
use Rattle.graph.specs.State.{State, IsState}
use Rattle.graph.specs.Whole.{IsGraph}
use Rattle.changes.specs.Posted.{IsPost}
use Rattle.flow.specs.declared.flow_graph.Flow.{Flow}
use Rattle.flow.specs.declared.instruction.Instr.{Instr}
use Rattle.edge_steps.specs.EdgeSteps.{EdgeSteps, EdgeFaults}
use Rattle.edge_steps.specs.Laws.{sizes_at}
use Rattle.transfer.specs.Fitting.{MayFollow}
use Rattle.transfer.specs.Posts.{edge_post}

-- a step of this state leads to one that is alike the next one
pub record GoesAlike (Steps : State → State → Type 0) (other next : State) : Type 0 where
  pub next' : State
  pub steps : Steps other next'
  pub there : ℕ → ℕ
  pub back : ℕ → ℕ
  pub paired : ℕ → Bool
  pub alike : AreAlikeStates there back paired next next'

pub record DoEdgesGoAlike : Type 0 where
  -- where no loss is named, a state that is alike one that the graph stands for goes as that one does
  pub steps : (flow : Flow) (point : ℕ) (instr : Instr) (parts : Parts) (post : Post) (there back : ℕ → ℕ) (paired : ℕ → Bool) (one other next : State) →
      IsGraph parts → MayFollow flow point instr parts → IsPost (edge_post flow instr parts) post → post.loss ≡ None →
      IsState one → IsState other → StandsFor parts one → AreAlikeStates there back paired one other →
      EdgeSteps flow (sizes_at flow point) instr one next → GoesAlike (EdgeSteps flow (sizes_at flow point) instr) other next
  -- alike states meet the same faults
  pub faults : (instr : Instr) (kind : ℕ) (there back : ℕ → ℕ) (paired : ℕ → Bool) (one other : State) →
      IsState one → IsState other → AreAlikeStates there back paired one other → EdgeFaults instr kind one → EdgeFaults instr kind other
