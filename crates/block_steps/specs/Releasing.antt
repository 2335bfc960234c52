-- The release of a block, as `free` does it (C11 7.22.3.3).
--
-- What comes of it where the register holds this value. `h` is a live object of the heap, `d` a dead one, `v` a variable's; `a` is a number of
-- eight bytes.
--
--   0                          the graph; nothing dies
--   16                         kind 6
--   a                          the graph in which a is 0, and kind 6
--   a, of which a pair says that it is not 0
--                              kind 6
--   the address of h           the graph in which h is dead
--   that of another byte of h  kind 6
--   that of d                  kind 5
--   that of another byte of d  kind 6
--   that of v                  kind 6
--   any word                   kinds 5 and 6; loss 4
use Rattle.std.specs.Prelude.{◌≡◌, ℕ, ◌+◌, ◌^◌, ◌<◌, ◌≤◌, true, ◌&&◌, List, [], ◌∷◌, map, length, nat_eq, ℤ, pos, Option, None, Some, IsSome, option_map, Contains, ◌⊎◌, if◌then◌else◌}
use Rattle.std.specs.Ordering.{int_eq}
use Rattle.bytes_core.specs.declared.word.Word.{Word}
use Rattle.bytes_core.specs.Fault.{double_free, invalid_free}
use Rattle.bytes_core.specs.Release.{is_heap, free_fault, freed}
use Rattle.graph.specs.declared.object.Object.{Object}
use Rattle.graph.specs.declared.object.Shape.TheVariants.{Region as RegionShape}
use Rattle.graph.specs.declared.value.Value.{Value}
use Rattle.graph.specs.declared.value.Value.TheVariants.{Const, Number, Any, Address}
use Rattle.graph.specs.declared.parts.Parts.{Parts}
use Rattle.graph.specs.declared.post.Post.{Post}
use Rattle.graph.specs.Maps.{object_at, value_at, held_by}
use Rattle.graph.specs.State.{State}
use Rattle.graph.specs.WellFormed.{nodes}
use Rattle.graph.specs.Whole.{IsGraph}
use Rattle.changes.specs.Dying.{died}
use Rattle.changes.specs.Following.{Leaves, SomeFaults, life}
use Rattle.changes.specs.Merging.{merged}
use Rattle.changes.specs.Parts.{emptied, with_object, with_value, without_registers}
use Rattle.changes.specs.Posted.{Posted, no_post, fault_only, on_held, on_object}
use Rattle.changes.specs.Reaching.{is_excluded}

-- the block to which the register leads dies; null changes nothing
pub record Releases (at : ℕ) (state next : State) : Type 0 where
  pub to : Word
  pub address : state.registers at ≡ Some to
  pub allowed : free_fault state.memory to ≡ None
  pub leaves : Leaves (freed state.memory to) (emptied (at ∷ []) state.registers) state next

pub record FaultsReleasing (at kind : ℕ) (state : State) : Type 0 where
  pub to : Word
  pub address : state.registers at ≡ Some to
  pub fault : free_fault state.memory to ≡ Some kind

abbrev pub only_graph : Parts → Posted
only_graph graph = record { graphs = graph ∷ []; kinds = []; loss = None }

-- a live object of the heap dies; of a dead one that is a second release, and at any other byte, or of any other object, one that is not allowed
abbrev pub object_released : Parts → List ℕ → ℕ → ℤ → Object → Posted
object_released parts gone key offset object =
    if is_heap object.kind && int_eq offset (pos 0)
    then (if object.live then only_graph (without_registers gone (with_object key (died object) parts)) else fault_only double_free)
    else fault_only invalid_free

-- the graph in which a number is 0: the constant 0 is a value more, which stands wherever the number did
abbrev pub with_null : ℕ → Parts → Parts
with_null key parts = merged (length parts.values) key (with_value (Const 0 8) parts)

-- a number is 0 where the release is no fault; a pair may say that it is not
abbrev pub number_released : Parts → List ℕ → ℕ → Posted
number_released parts gone key = record {
  graphs = if is_excluded parts key 0 then [] else without_registers gone (with_null key parts) ∷ [];
  kinds = invalid_free ∷ [];
  loss = None;
}

abbrev pub value_released : Parts → List ℕ → ℕ → Option Value → Posted
value_released parts gone key None = no_post
value_released parts gone key (Some (Const number size)) = if nat_eq number 0 then only_graph (without_registers gone parts) else fault_only invalid_free
value_released parts gone key (Some (Number size)) = number_released parts gone key
value_released parts gone key (Some Any) = record { graphs = []; kinds = double_free ∷ invalid_free ∷ []; loss = Some 4 }
value_released parts gone key (Some (Address object offset target)) = on_object (object_at parts.objects object) (object_released parts gone object offset)

abbrev pub release_post : Parts → ℕ → Posted
release_post parts at = on_held (held_by parts.registers at) (λ key. value_released parts (at ∷ []) key (value_at parts.values key))

-- each fault that is listed is met by some state, also through any word, where the graph may have one object more
pub record MeetsReleased (parts : Parts) (at : ℕ) (post : Post) : Type 0 where
  pub met : nodes parts + 1 < 2 ^ 30 → (kind : ℕ) → Contains post.kinds kind → SomeFaults parts (FaultsReleasing at kind)

-- the object with a key is there, and a region
pub record IsRegionFound (parts : Parts) (key : ℕ) : Type 0 where
  pub found : Object
  pub is : object_at parts.objects key ≡ Some found
  pub region : found.shape ≡ RegionShape

-- it lives, and is allocated
pub record IsFreeable (parts : Parts) (key : ℕ) : Type 0 where
  pub object : Object
  pub is : object_at parts.objects key ≡ Some object
  pub region : object.shape ≡ RegionShape
  pub live : object.live ≡ true
  pub heap : is_heap object.kind ≡ true

-- the object of the heap that was live is dead
pub record IsDeadNow (parts after : Parts) (key : ℕ) : Type 0 where
  pub was : IsFreeable parts key
  pub now : object_at after.objects key ≡ Some (died was.object)

-- the constant 0 stands for a number
pub record IsNullNow (parts after : Parts) (key other : ℕ) : Type 0 where
  pub was : value_at parts.values key ≡ Some (Number 8)
  pub now : value_at after.values other ≡ Some (Const 0 8)

-- a release keeps the variables, the objects but for one that may die, and the values; in registers and at ports the constant 0 may stand for a
-- number
pub record ReleaseTail (parts : Parts) (gone : List ℕ) (after : Parts) : Type 0 where
  pub graph : IsGraph after
  pub variables : after.variables ≡ parts.variables
  pub lives : (key : ℕ) → (option_map life (object_at after.objects key) ≡ option_map life (object_at parts.objects key)) ⊎ IsDeadNow parts after key
  pub values : (key : ℕ) → IsSome (value_at parts.values key) → value_at after.values key ≡ value_at parts.values key
  pub key_of : ℕ → ℕ
  pub keys : (key : ℕ) → (key_of key ≡ key) ⊎ IsNullNow parts after key (key_of key)
  pub ports : after.ports ≡ map key_of parts.ports
  pub registers : (register : ℕ) → held_by after.registers register ≡ option_map key_of (emptied gone (held_by parts.registers) register)
  pub pairs : length after.unequal ≤ length parts.unequal
