-- What the post of an edge says of the states that follow, and of the faults that are met.
use Rattle.std.specs.Prelude.{◌≡◌, ◌≢◌, ℕ, ◌+◌, ◌^◌, ◌<◌, true, List, [], length, Result, Ok, Err, None, Some, Contains, All}
use Rattle.cbase.specs.declared.no_memory.NoMemory.{NoMemory}
use Rattle.cbase.specs.declared.stop.Stop.{Stop}
use Rattle.cbase.specs.declared.stop.Stop.TheVariants as stops
use Rattle.bytes_core.specs.declared.block.Block.{Block}
use Rattle.graph.specs.declared.parts.Parts.{Parts}
use Rattle.graph.specs.declared.post.Post.{Post}
use Rattle.graph.specs.Meaning.{StandsFor}
use Rattle.graph.specs.Numbers.{HasRoom}
use Rattle.graph.specs.State.{State, IsState}
use Rattle.graph.specs.WellFormed.{are_ascending, nodes}
use Rattle.changes.specs.AnyWords.{HasPlaceForOne}
use Rattle.changes.specs.Following.{SomeFaults}
use Rattle.changes.specs.FollowingAlike.{FollowsAlike}
use Rattle.changes.specs.Posted.{SomeStandsFor}
use Rattle.flow.specs.declared.flow_graph.Flow.{Flow}
use Rattle.flow.specs.declared.instruction.Instr.{Instr}
use Rattle.flow.specs.declared.instruction.Instr.TheVariants.{Release, Copy, Leave}
use Rattle.edge_steps.specs.EdgeSteps.{EdgeSteps, EdgeFaults}
use Rattle.edge_steps.specs.Laws.{sizes_at}
use Rattle.heap_steps.specs.Closing.{Closes, FaultsClosing}
use Rattle.heap_steps.specs.Leaving.{HasRoomFor}
use Rattle.heap_steps.specs.Regions.{IsExactOfRegions}
use Rattle.range_steps.specs.AnyCopies.{HasPlaceToCopy}
use Rattle.settle.specs.Settled.{settled}
use Rattle.transfer.specs.Through.{goes_through}

-- the answer of a step that is never too large
abbrev pub stopped : Result Post NoMemory → Result Post Stop
stopped (Ok post) = Ok post
stopped (Err error) = Err stops.NoMemory

-- the memory has room for the blocks that die in an instruction
abbrev pub HasRoomBack : Instr → List Block → Type 0
HasRoomBack (Release at) memory = HasRoom memory
HasRoomBack (Leave variables) memory = HasRoomFor (length variables) memory
HasRoomBack instr memory = Unit {0}

-- the graph may have one object more, and has a region to which any word may lead, where it has a live object
abbrev pub HasPlaceFor : Instr → Parts → Type 0
HasPlaceFor (Release at) parts = nodes parts + 1 < 2 ^ 30
HasPlaceFor (Copy to from length disjoint) parts = HasPlaceToCopy parts length
HasPlaceFor instr parts = HasPlaceForOne parts

pub record StandsForAll (parts : Parts) (Steps : State → State → Type 0) (Faults : ℕ → State → Type 0) (Room : List Block → Type 0) (Place : Type 0) (post : Post) : Type 0 where
  -- the graphs stand for each state that follows, but where loss 4 is named beside a kind: for an access through any word
  pub sound : (state next : State) → IsState state → StandsFor parts state → Steps state next → (post.loss ≡ Some 4 → post.kinds ≡ []) → SomeStandsFor post.graphs next
  -- where nothing is lost they stand for these alone, up to alike states
  pub exact : (after : Parts) (next : State) → post.loss ≡ None → Contains post.graphs after → IsState next → StandsFor after next → Room next.memory → FollowsAlike parts Steps next
  -- and of a graph of regions in any memory
  pub exact_of_regions : IsExactOfRegions parts Steps post
  -- each fault that a state meets is listed, and each that is listed is met by some state: through any word where there is a place for it
  pub kinds : (state : State) (kind : ℕ) → IsState state → StandsFor parts state → Faults kind state → Contains post.kinds kind
  pub met : (kind : ℕ) → post.loss ≢ Some 4 → Contains post.kinds kind → SomeFaults parts (Faults kind)
  pub through_any : Place → (kind : ℕ) → Contains post.kinds kind → SomeFaults parts (Faults kind)
  pub ascending : are_ascending post.kinds ≡ true

-- of what a graph sees of the states of the flow machine at a point: where no register through which the instruction goes names a segment
abbrev pub InstrMeans : Flow → ℕ → Instr → Parts → Post → Type 0
InstrMeans flow point instr parts post =
    StandsForAll parts (EdgeSteps flow (sizes_at flow point) instr) (EdgeFaults instr) (HasRoomBack instr) (HasPlaceFor instr parts) post

-- of the end of a run
abbrev pub EndMeans : Parts → Post → Type 0
EndMeans parts post = StandsForAll parts Closes FaultsClosing (λ memory. Unit {0}) (HasPlaceForOne parts) post

-- and of any graph, with a place in each of the graphs that it then is
abbrev pub EdgeMeans : Flow → ℕ → Instr → Parts → Post → Type 0
EdgeMeans flow point instr parts post =
    StandsForAll parts (EdgeSteps flow (sizes_at flow point) instr) (EdgeFaults instr) (HasRoomBack instr) (All (HasPlaceFor instr) (settled (goes_through instr) parts)) post
