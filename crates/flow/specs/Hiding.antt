-- A part of a memory, and a run on it.
--
-- The part has the same blocks with the same numbers. Those that are not in it are hidden: they keep base and bytes, and are
-- dead and static.
use Rattle.std.specs.Prelude.{◌≡◌, ◌≢◌, ℕ, suc, ◌≤◌, Bool, true, false, ◌⊎◌, List, [], ◌∷◌, ◌++◌, length, slice_get, Some, None, IsTrue, Contains}
use Rattle.bytes_core.specs.declared.word.Word.{Word}
use Rattle.bytes_core.specs.declared.block.BlockKind.{BlockKind}
use Rattle.bytes_core.specs.declared.block.BlockKind.TheVariants as storage
use Rattle.bytes_core.specs.declared.block.Block.{Block}
use Rattle.bytes_core.specs.Fault.{memory_lost, block_never_freed}
use Rattle.bytes_core.specs.Value.{address_number, is_same_address}
use Rattle.bytes_core.specs.Placement.{is_new_block, placed}
use Rattle.bytes_core.specs.Access.{access_fault, range_fault, bytes_at, loaded, stored, filled}
use Rattle.bytes_core.specs.Copying.{copy_fault, copied}
use Rattle.bytes_core.specs.Release.{is_heap, free_fault, freed, without}
use Rattle.bytes_core.specs.Loss.{Chain, is_lost}
use Rattle.flow.specs.declared.flow_graph.Flow.{Flow}
use Rattle.flow.specs.declared.flow_graph.FlowEdge.{FlowEdge}
use Rattle.choices.specs.declared.choice.Choice.{Choice}
use Rattle.flow.specs.Machine.{Caller, State, Outcome, Went, Barred, Waits, Ended, Faulted, step_along}
use Rattle.flow.specs.Walks.{is_return}
use Rattle.flow.specs.Choosing.{run_along}

-- a block that is hidden, or is not
abbrev pub hidden_block : Bool → Block → Block
hidden_block true block = record block { kind = storage.Static; live = false }
hidden_block false block = block

-- a memory with some blocks hidden: those whose numbers pass the test
abbrev pub hidden : (ℕ → Bool) → List Block → List Block
hidden hides [] = []
hidden hides (block ∷ rest) = hidden_block (hides 0) block ∷ hidden (λ number. hides (suc number)) rest

-- what does not look at whether blocks live and of what kind they are is as it was
pub record ReadsTheSame (hides : ℕ → Bool) (memory : List Block) : Type 0 where
  pub count : length (hidden hides memory) ≡ length memory
  pub addresses : (word : Word) → address_number (hidden hides memory) word ≡ address_number memory word
  pub equality : (one other : Word) → is_same_address (hidden hides memory) one other ≡ is_same_address memory one other
  pub bytes : (at : Word) (count : ℕ) → bytes_at (hidden hides memory) at count ≡ bytes_at memory at count
  pub loads : (at : Word) (size : ℕ) (pointer : Bool) → loaded (hidden hides memory) at size pointer ≡ loaded memory at size pointer

-- each change of the part is that change of the whole
pub record ChangesTheSame (hides : ℕ → Bool) (memory : List Block) : Type 0 where
  pub stores : (at : Word) (size : ℕ) (word : Word) → stored (hidden hides memory) at size word ≡ hidden hides (stored memory at size word)
  pub fills : (at : Word) (number count : ℕ) → filled (hidden hides memory) at number count ≡ hidden hides (filled memory at number count)
  pub copies : (to from : Word) (count : ℕ) → copied (hidden hides memory) to from count ≡ hidden hides (copied memory to from count)
  pub frees : (at : Word) → freed (hidden hides memory) at ≡ hidden hides (freed memory at)
  pub ends : (number : ℕ) →
      without (hidden hides memory) number (slice_get (hidden hides memory) number) ≡ hidden hides (without memory number (slice_get memory number))
  pub places : (block : Block) → hides (length memory) ≡ false → placed (hidden hides memory) block ≡ hidden hides (placed memory block)

-- where the part meets no fault the whole meets none, and where the whole has room for a block so has the part
pub record FaultsNoMore (hides : ℕ → Bool) (memory : List Block) : Type 0 where
  pub accesses : (at : Word) (count : ℕ) → access_fault (hidden hides memory) at count ≡ None → access_fault memory at count ≡ None
  pub ranges : (at : Word) (count : ℕ) → range_fault (hidden hides memory) at count ≡ None → range_fault memory at count ≡ None
  pub copies : (to from : Word) (count : ℕ) (disjoint : Bool) →
      copy_fault (hidden hides memory) to from count disjoint ≡ None → copy_fault memory to from count disjoint ≡ None
  pub frees : (at : Word) → free_fault (hidden hides memory) at ≡ None → free_fault memory at ≡ None
  pub room : (kind : BlockKind) (size base : ℕ) (contents : List ℕ) →
      IsTrue (is_new_block memory kind size base contents) → IsTrue (is_new_block (hidden hides memory) kind size base contents)

-- what memories come to where some blocks are hidden
pub record AreHiddenRightly : Type 0 where
  pub reads : (hides : ℕ → Bool) (memory : List Block) → ReadsTheSame hides memory
  pub changes : (hides : ℕ → Bool) (memory : List Block) → ChangesTheSame hides memory
  pub faults : (hides : ℕ → Bool) (memory : List Block) → FaultsNoMore hides memory

-- the part of a state that some functions work on: the blocks of the rest are hidden, the callers below are away, and other
-- roots lie outside
pub record IsPartOf (hides : ℕ → Bool) (below : List Caller) (outer : List ℕ) (part whole : State) : Type 0 where
  pub point : part.point ≡ whole.point
  pub frame : part.frame ≡ whole.frame
  pub callers : part.callers ++ below ≡ whole.callers
  pub statics : part.statics ≡ whole.statics
  pub memory : part.memory ≡ hidden hides whole.memory
  pub outside : part.outer ≡ outer
  -- no block that is made later is hidden
  pub later : (number : ℕ) → length whole.memory ≤ number → hides number ≡ false

-- a fault of lost memory
abbrev pub IsLoss : ℕ → Type 0
IsLoss kind = (kind ≡ memory_lost) ⊎ (kind ≡ block_never_freed)

-- What a step on the part comes to, and what that step on the whole comes to. Nothing is said where the part meets a fault,
-- nor where the whole ends the run, as for a new block for which only the part has room. Else both do the same: the whole
-- meets no fault but that of lost memory, which is looked for from other roots.
abbrev pub Follows : (ℕ → Bool) → List Caller → List ℕ → Outcome → Outcome → Type 0
Follows hides below outer (Faulted kind place) whole = Unit {0}
Follows hides below outer (Went next rest) (Went next' rest') = IsPartOf hides below outer next next' × (rest ≡ rest')
Follows hides below outer (Went next rest) (Faulted kind place) = IsLoss kind
Follows hides below outer (Went next rest) Ended = Unit {0}
Follows hides below outer (Went next rest) Barred = ⊥
Follows hides below outer (Went next rest) Waits = ⊥
Follows hides below outer Barred whole = (whole ≡ Barred) ⊎ (whole ≡ Ended)
Follows hides below outer Waits whole = (whole ≡ Waits) ⊎ (whole ≡ Ended)
Follows hides below outer Ended whole = whole ≡ Ended

-- a step on the part is that step on the whole, unless it goes back to a caller that is away
abbrev pub DoPartsFollow : Type 0
DoPartsFollow = (hides : ℕ → Bool) (below : List Caller) (outer : List ℕ) (flow : Flow) (edge : FlowEdge) (part whole : State) (choices : List Choice) →
    IsPartOf hides below outer part whole → (IsTrue (is_return edge.instr) → part.callers ≢ []) →
    Follows hides below outer (step_along flow edge part choices) (step_along flow edge whole choices)

-- where no memory of the part is lost, none of the whole is, if there each hidden heap block that lives is reached, and each
-- root of the part
abbrev pub IsNoMoreLost : Type 0
IsNoMoreLost = (hides : ℕ → Bool) (memory : List Block) (roots inside : List ℕ) →
    ((number : ℕ) (block : Block) → slice_get memory number ≡ Some block → hides number ≡ true → IsTrue (is_heap block.kind) → IsTrue block.live →
    Chain memory roots number) →
    ((number : ℕ) → Contains inside number → Chain memory roots number) →
    is_lost (hidden hides memory) inside ≡ false → is_lost memory roots ≡ false

-- along these edges the part does not go back to a caller that is away
abbrev pub StaysInside : Flow → List FlowEdge → State → List Choice → Type 0
StaysInside flow [] part choices = Unit {0}
StaysInside flow (edge ∷ rest) part choices =
    (IsTrue (is_return edge.instr) → part.callers ≢ [])
    × ((next : State) (more : List Choice) → step_along flow edge part choices ≡ Went next more → StaysInside flow rest next more)

-- what a run on the part comes to, where that run on the whole leaves this state: it meets a fault, or leaves the part of it
abbrev pub FollowsTo : (ℕ → Bool) → List Caller → List ℕ → State → List Choice → Outcome → Type 0
FollowsTo hides below outer whole choices (Went part rest) = IsPartOf hides below outer part whole × (rest ≡ choices)
FollowsTo hides below outer whole choices (Faulted kind place) = Unit {0}
FollowsTo hides below outer whole choices Barred = ⊥
FollowsTo hides below outer whole choices Waits = ⊥
FollowsTo hides below outer whole choices Ended = ⊥

-- a run on the whole is, step for step, that run on the part, until the part meets a fault or goes back
abbrev pub DoRunsFollow : Type 0
DoRunsFollow = (hides : ℕ → Bool) (below : List Caller) (outer : List ℕ) (flow : Flow) (edges : List FlowEdge) (part whole next : State) (choices rest : List Choice) →
    IsPartOf hides below outer part whole → StaysInside flow edges part choices → run_along flow edges whole choices ≡ Went next rest →
    FollowsTo hides below outer next rest (run_along flow edges part choices)
