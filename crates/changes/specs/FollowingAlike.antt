-- What the post of a step says of the states that follow, up to alike ones: where a block dies, graphs leave open what lay in it, how large
-- it was and where; where one is made, which number it has.
use Rattle.std.specs.Prelude.{◌≡◌, ◌≢◌, ℕ, Bool, true, List, None, Some, Contains}
use Rattle.bytes_core.specs.declared.block.Block.{Block}
use Rattle.graph.specs.declared.parts.Parts.{Parts}
use Rattle.graph.specs.declared.post.Post.{Post}
use Rattle.graph.specs.AlikeStates.{AreAlikeStates}
use Rattle.graph.specs.Meaning.{StandsFor}
use Rattle.graph.specs.State.{State, IsState}
use Rattle.graph.specs.WellFormed.{are_ascending}
use Rattle.changes.specs.Following.{SomeFaults}
use Rattle.changes.specs.Posted.{SomeStandsFor}

-- a state that the graph stands for goes by a step to one that is alike this one
pub record FollowsAlike (parts : Parts) (Steps : State → State → Type 0) (next : State) : Type 0 where
  pub state : State
  pub next' : State
  pub is : IsState state
  pub stands : StandsFor parts state
  pub steps : Steps state next'
  pub there : ℕ → ℕ
  pub back : ℕ → ℕ
  pub paired : ℕ → Bool
  pub alike : AreAlikeStates there back paired next next'

-- of steps and faults of the states that the graph stands for
pub record StepMeansAlike (parts : Parts) (Steps : State → State → Type 0) (Faults : ℕ → State → Type 0) (Tail : Parts → Type 0) (Room : List Block → Type 0) (post : Post) : Type 0 where
  -- but for an access through any word, the graphs stand for each state that follows
  pub sound : (state next : State) → IsState state → StandsFor parts state → Steps state next → post.loss ≢ Some 4 → SomeStandsFor post.graphs next
  -- where nothing is lost they stand for these alone, and for states alike them, if there is room in the memory for what was there before
  pub exact : (after : Parts) (next : State) → post.loss ≡ None → Contains post.graphs after → IsState next → StandsFor after next → Room next.memory → FollowsAlike parts Steps next
  -- each fault that a state meets is listed, and each that is listed is met by some state, but for an access through any word
  pub kinds : (state : State) (kind : ℕ) → IsState state → StandsFor parts state → Faults kind state → Contains post.kinds kind
  pub met : (kind : ℕ) → post.loss ≢ Some 4 → Contains post.kinds kind → SomeFaults parts (Faults kind)
  pub ascending : are_ascending post.kinds ≡ true
  -- each graph is one, and leaves this of the graph before
  pub tail : (after : Parts) → Contains post.graphs after → Tail after
