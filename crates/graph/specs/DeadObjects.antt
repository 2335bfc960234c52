-- Dead objects whose address something holds.
--
-- A dead object may stand for no block at all, since alike memories differ in dead blocks that nothing names. Where
-- its address is held, its block is there.
use Rattle.std.specs.Prelude.{◌≡◌, ℕ, ◌≤◌, true, false, List, [], ◌∷◌, slice_get, ℤ, Some}
use Rattle.bytes_core.specs.declared.block.BlockKind.{BlockKind}
use Rattle.bytes_core.specs.declared.block.Block.{Block}
use Rattle.graph.specs.declared.edges.HasValue.{HasValue}
use Rattle.graph.specs.declared.object.Links.{Links}
use Rattle.graph.specs.declared.object.Object.{Object}
use Rattle.graph.specs.declared.value.Target.{Target}
use Rattle.graph.specs.declared.value.Value.TheVariants.{Address}
use Rattle.graph.specs.declared.parts.Parts.{Parts}
use Rattle.graph.specs.Maps.{object_at, value_at, held_by}
use Rattle.graph.specs.Nodes.{links_in, node_of}
use Rattle.graph.specs.State.{State, IsState}
use Rattle.graph.specs.Meaning.{Assignment, Meets, maps_of}
use Rattle.graph.specs.WellFormed.{IsWellFormed}

-- the block with this number is there, dead and of this kind
pub record IsDeadBlock (memory : List Block) (storage : BlockKind) (number : ℕ) : Type 0 where
  pub block : Block
  pub there : slice_get memory number ≡ Some block
  pub live : block.live ≡ false
  pub kind : block.kind ≡ storage

-- a register, a port, an edge of a live region or a node that has to be there holds the value with this key
pub data IsHeld (parts : Parts) (value : ℕ) : Type 0 where
  InRegister : (register : ℕ) → held_by parts.registers register ≡ Some value → IsHeld parts value
  InPort : (place : ℕ) → slice_get parts.ports place ≡ Some value → IsHeld parts value
  InObject : (key : ℕ) (object : Object) (place : ℕ) (edge : HasValue) → object_at parts.objects key ≡ Some object → object.live ≡ true →
      slice_get object.edges place ≡ Some edge → edge.value ≡ value → IsHeld parts value
  -- so does an edge of the nodes of a segment that has one at least, or the link of its last node
  InNode : (key : ℕ) (object : Object) (links : Links) (place : ℕ) (edge : HasValue) → object_at parts.objects key ≡ Some object → links_in object.shape ≡ Some links → 1 ≤ links.least →
      slice_get (node_of object).edges place ≡ Some edge → edge.value ≡ value → IsHeld parts value
  InLink : (key : ℕ) (object : Object) (links : Links) → object_at parts.objects key ≡ Some object → links_in object.shape ≡ Some links → 1 ≤ links.least →
      links.next_value ≡ value → IsHeld parts value
  -- or, where the nodes are linked both ways, the link back of its first node
  InLinkBack : (key : ℕ) (object : Object) (links : Links) → object_at parts.objects key ≡ Some object → links_in object.shape ≡ Some links → 1 ≤ links.least →
      links.twofold ≡ true → links.prev_value ≡ value → IsHeld parts value

-- a dead object whose address is held has one block, which is there, dead and of the object's kind
abbrev pub AreHeldBlocksThere : Type 0
AreHeldBlocksThere = (parts : Parts) (state : State) (given : Assignment) (key value : ℕ) (object : Object) (offset : ℤ) (target : Target) →
    IsWellFormed parts → IsState state → Meets (maps_of parts) state given →
    object_at parts.objects key ≡ Some object → object.live ≡ false →
    value_at parts.values value ≡ Some (Address key offset target) → IsHeld parts value →
    (number : ℕ) × (given.blocks key ≡ number ∷ []) × IsDeadBlock state.memory object.kind number
