-- What a step does with a state, what the post of a step says of the states that follow, and what it leaves of the graph.
use Rattle.std.specs.Prelude.{◌≡◌, ◌≢◌, ℕ, Bool, true, false, List, Option, None, Some, IsSome, Contains, nat_eq, option_map}
use Rattle.std.specs.Option.{option_map_or}
use Rattle.bytes_core.specs.declared.block.Block.{Block}
use Rattle.bytes_core.specs.declared.block.BlockKind.{BlockKind}
use Rattle.bytes_core.specs.declared.word.Word.{Word}
use Rattle.graph.specs.declared.object.Object.{Object}
use Rattle.graph.specs.declared.parts.Parts.{Parts}
use Rattle.graph.specs.declared.post.Post.{Post}
use Rattle.graph.specs.declared.value.Value.{Value}
use Rattle.graph.specs.DeadBlocks.{IsMoreDead}
use Rattle.graph.specs.Maps.{object_at, value_at, held_by}
use Rattle.graph.specs.Meaning.{StandsFor}
use Rattle.graph.specs.Sizes.{value_size}
use Rattle.graph.specs.State.{State, IsState}
use Rattle.graph.specs.WellFormed.{passes_at, are_ascending}
use Rattle.graph.specs.Whole.{IsGraph}
use Rattle.changes.specs.Parts.{emptied}
use Rattle.changes.specs.Posted.{SomeStandsFor}
use Rattle.changes.specs.Reaching.{names_no_segment}

-- the state behind has this memory, its registers hold these words, and all else is as before
pub record Leaves (left : List Block) (held : ℕ → Option Word) (state next : State) : Type 0 where
  pub memory : next.memory ≡ left
  pub registers : (register : ℕ) → next.registers register ≡ held register
  pub variables : (variable : ℕ) → next.variables variable ≡ state.variables variable
  pub ports : next.ports ≡ state.ports
  pub roots : next.roots ≡ state.roots

-- a state that the graph stands for goes by a step to this one, or to one that has more dead blocks, which nothing names
pub record Follows (parts : Parts) (Steps : State → State → Type 0) (next : State) : Type 0 where
  pub state : State
  pub next' : State
  pub is : IsState state
  pub stands : StandsFor parts state
  pub steps : Steps state next'
  pub more : IsMoreDead next next'

-- a state that the graph stands for meets a fault
pub record SomeFaults (parts : Parts) (Faults : State → Type 0) : Type 0 where
  pub state : State
  pub is : IsState state
  pub stands : StandsFor parts state
  pub faults : Faults state

-- of steps and faults of the states that the graph stands for
pub record StepMeans (parts : Parts) (Steps : State → State → Type 0) (Faults : ℕ → State → Type 0) (Tail : Parts → Type 0) (post : Post) : Type 0 where
  -- but for an access through any word, the graphs stand for each state that follows
  pub sound : (state next : State) → IsState state → StandsFor parts state → Steps state next → post.loss ≢ Some 4 → SomeStandsFor post.graphs next
  -- where nothing is lost they stand for these alone
  pub exact : (after : Parts) (next : State) → post.loss ≡ None → Contains post.graphs after → IsState next → StandsFor after next → Follows parts Steps next
  -- each fault that a state meets is listed, and each that is listed is met by some state, but for an access through any word
  pub kinds : (state : State) (kind : ℕ) → StandsFor parts state → Faults kind state → Contains post.kinds kind
  pub met : (kind : ℕ) → post.loss ≢ Some 4 → Contains post.kinds kind → SomeFaults parts (Faults kind)
  pub ascending : are_ascending post.kinds ≡ true
  -- each graph is one, and leaves this of the graph before
  pub tail : (after : Parts) → Contains post.graphs after → Tail after

-- whether an object lives, and its kind
abbrev pub life : Object → Bool × BlockKind
life object = (object.live, object.kind)

-- a graph keeps its ports, its variables and its pairs; its objects live, or do not, as before; and its values stay
pub record KeepsTail (parts after : Parts) : Type 0 where
  pub graph : IsGraph after
  pub ports : after.ports ≡ parts.ports
  pub variables : after.variables ≡ parts.variables
  pub unequal : after.unequal ≡ parts.unequal
  pub lives : (key : ℕ) → option_map life (object_at after.objects key) ≡ option_map life (object_at parts.objects key)
  pub values : (key : ℕ) → IsSome (value_at parts.values key) → value_at after.values key ≡ value_at parts.values key

-- after a write the registers that it reads are empty
pub record WriteTail (parts : Parts) (gone : List ℕ) (after : Parts) : Type 0 where
  pub keeps : KeepsTail parts after
  pub registers : (register : ℕ) → held_by after.registers register ≡ emptied gone (held_by parts.registers) register

-- a register holds a value of this size
abbrev pub holds_size : Parts → ℕ → ℕ → Bool
holds_size parts register size = option_map_or (passes_at parts (λ value. nat_eq (value_size value) size)) (held_by parts.registers register) false

-- the value with a key is there, and no address of a node of a segment
pub record LeadsToRegion (parts : Parts) (key : ℕ) : Type 0 where
  pub value : Value
  pub is : value_at parts.values key ≡ Some value
  pub names : names_no_segment value ≡ true
