-- The end of a run, where no block of the heap may be left.
use Rattle.std.specs.Prelude.{◌≡◌, ℕ, Bool, true, false, ◌&&◌, [], ◌∷◌, nat_le, slice_get, None, Some}
use Rattle.std.specs.List.{list_all, list_any}
use Rattle.bytes_core.specs.declared.block.Block.{Block}
use Rattle.bytes_core.specs.Fault.{block_never_freed}
use Rattle.bytes_core.specs.Release.{is_heap}
use Rattle.graph.specs.declared.object.Object.{Object}
use Rattle.graph.specs.declared.object.Shape.{Shape}
use Rattle.graph.specs.declared.object.Shape.TheVariants.{Region, Segment}
use Rattle.graph.specs.declared.parts.Parts.{Parts}
use Rattle.graph.specs.State.{State}
use Rattle.changes.specs.Following.{Leaves}
use Rattle.changes.specs.Posted.{Posted}

-- a live block of the heap
pub record HasHeapBlock (state : State) : Type 0 where
  pub number : ℕ
  pub block : Block
  pub stands : slice_get state.memory number ≡ Some block
  pub live : block.live ≡ true
  pub heap : is_heap block.kind ≡ true

-- none is left, and all is as before
pub record Closes (state next : State) : Type 0 where
  pub none : ¬ HasHeapBlock state
  pub leaves : Leaves state.memory state.registers state next

pub record FaultsClosing (kind : ℕ) (state : State) : Type 0 where
  pub some : HasHeapBlock state
  pub is : kind ≡ block_never_freed

-- an object stands for a live block of the heap
abbrev pub is_live_heap : Object → Bool
is_live_heap object = object.live && is_heap object.kind

abbrev pub has_live_heap : Parts → Bool
has_live_heap parts = list_any (λ entry. is_live_heap entry.object) parts.objects

-- in each memory it stands for a block at least
abbrev pub has_a_block : Shape → Bool
has_a_block Region = true
has_a_block (Segment twofold head next prev back least next_value prev_value node) = nat_le 1 least

-- no segment may be empty
abbrev pub none_is_empty : Parts → Bool
none_is_empty parts = list_all (λ entry. has_a_block entry.object.shape) parts.objects

abbrev pub closed_by : Parts → Bool → Posted
closed_by parts true = record { graphs = []; kinds = block_never_freed ∷ []; loss = None }
closed_by parts false = record { graphs = parts ∷ []; kinds = []; loss = None }

abbrev pub close_post : Parts → Posted
close_post parts = closed_by parts (has_live_heap parts)
