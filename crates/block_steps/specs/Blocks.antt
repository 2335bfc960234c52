-- A block that is made, and the object that stands for it.
use Rattle.std.specs.Prelude.{◌≡◌, ℕ, ◌+◌, ◌^◌, Bool, true, ◌||◌, not, List, [], replicate, nat_eq, nat_lt, Option, None, Some, if◌then◌else◌, IsTrue}
use Rattle.std.specs.List.{list_all}
use Rattle.bytes_core.specs.declared.block.Block.{Block}
use Rattle.bytes_core.specs.declared.block.BlockKind.{BlockKind}
use Rattle.bytes_core.specs.declared.word.Word.{Word}
use Rattle.bytes_core.specs.Placement.{new_block, is_new_block, placed}
use Rattle.graph.specs.declared.object.Object.{Object}
use Rattle.graph.specs.declared.object.Shape.TheVariants.{Region}
use Rattle.graph.specs.declared.parts.Parts.{Parts}
use Rattle.graph.specs.Large.{is_addressed}
use Rattle.graph.specs.State.{State}
use Rattle.graph.specs.WellFormed.{nodes}
use Rattle.heap_steps.specs.Unreached.{may_lead_anywhere}

-- a memory has a live block of a kind more, behind all others: of so many bytes, which are numbers, and 0 where that is asked for
pub record MakesBlock (kind : BlockKind) (size : ℕ) (zeroed : Bool) (memory left : List Block) : Type 0 where
  pub base : ℕ
  pub contents : List ℕ
  pub new : IsTrue (is_new_block memory kind size base contents)
  pub zeros : IsTrue (not zeroed || list_all (nat_eq 0) contents)
  pub is : left ≡ placed memory (new_block kind base contents)

-- the state behind has such a memory, variables and registers hold this, and all else is as before
pub record Makes (kind : BlockKind) (size : ℕ) (zeroed : Bool) (variables : ℕ → Option ℕ) (registers : ℕ → Option Word) (state next : State) : Type 0 where
  pub block : MakesBlock kind size zeroed state.memory next.memory
  pub variables_are : (variable : ℕ) → next.variables variable ≡ variables variable
  pub registers_are : (register : ℕ) → next.registers register ≡ registers register
  pub ports : next.ports ≡ state.ports
  pub roots : next.roots ≡ state.roots

-- a live region of a kind and size of which no edge tells: its bytes are numbers, and 0 where that is asked for
abbrev pub new_object : BlockKind → ℕ → Bool → Object
new_object kind size zeroed = record {
  size = size;
  kind = kind;
  live = true;
  shape = Region;
  edges = [];
  plane = replicate size (if zeroed then 0 else 1);
}

-- loss 3: something may lead to the new block that does so in no state that follows
abbrev pub loss_beside : Parts → Option ℕ
loss_beside parts = if may_lead_anywhere parts then Some 3 else None

-- so many objects more may stand in a graph
abbrev pub has_room : Parts → ℕ → Bool
has_room parts count = nat_lt (nodes parts + count) (2 ^ 30)

-- each dead object is one whose address something holds
abbrev pub dead_are_addressed : Parts → Bool
dead_are_addressed parts = list_all (λ entry. entry.object.live || is_addressed parts entry.key) parts.objects

-- to make a block meets no fault, and needs no room in the memory for another one
abbrev pub NoFault : ℕ → State → Type 0
NoFault kind state = ⊥

abbrev pub AnyMemory : List Block → Type 0
AnyMemory memory = Unit {0}
