-- An allocation that gives a block (C11 7.22.3p1, 7.22.3.2, 7.22.3.4).
use Rattle.std.specs.Prelude.{◌≡◌, ◌≢◌, ℕ, Bool, [], ◌∷◌, length, pos, Some}
use Rattle.bytes_core.specs.declared.block.BlockKind.TheVariants.{Heap}
use Rattle.bytes_core.specs.declared.word.Word.TheVariants.{To}
use Rattle.graph.specs.declared.parts.Parts.{Parts}
use Rattle.graph.specs.declared.value.Target.TheVariants.{Region}
use Rattle.graph.specs.declared.value.Value.TheVariants.{Address}
use Rattle.graph.specs.Maps.{object_at, value_at, held_by}
use Rattle.graph.specs.State.{State}
use Rattle.graph.specs.Whole.{IsGraph}
use Rattle.changes.specs.Parts.{put, with_object_more, with_value, with_register}
use Rattle.changes.specs.Posted.{Posted}
use Rattle.block_steps.specs.Blocks.{Makes, new_object, loss_beside}

-- the register gets the address of a new block of the heap
abbrev pub Allocates : ℕ → Bool → ℕ → State → State → Type 0
Allocates size zeroed into state next = Makes Heap size zeroed state.variables (put into (To (length state.memory) (pos 0)) state.registers) state next

-- an object more, and its address, which the register holds
abbrev pub with_allocated : ℕ → Bool → ℕ → Parts → Parts
with_allocated size zeroed into parts =
    with_register into (length parts.values) (with_value (Address (length parts.objects) (pos 0) Region) (with_object_more (new_object Heap size zeroed) parts))

abbrev pub allocate_post : Parts → ℕ → Bool → ℕ → Posted
allocate_post parts size zeroed into = record { graphs = with_allocated size zeroed into parts ∷ []; kinds = []; loss = loss_beside parts }

-- what an allocation leaves of a graph: all but what the register held, and an object and a value more
pub record AllocateTail (parts : Parts) (size : ℕ) (zeroed : Bool) (into : ℕ) (after : Parts) : Type 0 where
  pub graph : IsGraph after
  pub ports : after.ports ≡ parts.ports
  pub variables : after.variables ≡ parts.variables
  pub unequal : after.unequal ≡ parts.unequal
  pub objects : (key : ℕ) → key ≢ length parts.objects → object_at after.objects key ≡ object_at parts.objects key
  pub object : object_at after.objects (length parts.objects) ≡ Some (new_object Heap size zeroed)
  pub values : (key : ℕ) → key ≢ length parts.values → value_at after.values key ≡ value_at parts.values key
  pub value : value_at after.values (length parts.values) ≡ Some (Address (length parts.objects) (pos 0) Region)
  pub registers : (register : ℕ) → held_by after.registers register ≡ put into (length parts.values) (held_by parts.registers) register
