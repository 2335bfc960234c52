-- What the nodes of a segment are, node by node, and what its addresses are.
use Rattle.std.specs.Prelude.{◌≡◌, ℕ, suc, ◌≤◌, true, List, [], ◌∷◌, ◌++◌, length, take, drop, slice_get, ℤ, pos, ◌-ℤ◌, None, Some, IsTrue}
use Rattle.bytes_core.specs.declared.byte.Byte.TheVariants.{Num}
use Rattle.bytes_core.specs.declared.block.Block.{Block}
use Rattle.bytes_core.specs.declared.word.Word.{Word}
use Rattle.bytes_core.specs.declared.word.Word.TheVariants.{To}
use Rattle.bytes_core.specs.Value.{word_bytes, moved}
use Rattle.graph.specs.declared.edges.HasValue.{HasValue}
use Rattle.graph.specs.declared.object.Links.{Links}
use Rattle.graph.specs.declared.object.Object.{Object}
use Rattle.graph.specs.declared.template.Node.{Node}
use Rattle.graph.specs.declared.value.Target.TheVariants.{First, Last}
use Rattle.graph.specs.declared.value.Value.TheVariants.{Address}
use Rattle.graph.specs.declared.parts.Parts.{Parts}
use Rattle.graph.specs.Maps.{object_at, value_at}
use Rattle.graph.specs.Nodes.{links_in, node_of}
use Rattle.graph.specs.State.{State}
use Rattle.graph.specs.Meaning.{HoldsWord, word_at, own_offset, Assignment, Meets, maps_of}
use Rattle.graph.specs.WellFormed.{IsWellFormed}

-- the node at a place among these blocks, behind the last of which lies `after` and before the first of which lies `before`
pub record IsNodeAt (memory : List Block) (object : Object) (links : Links) (template : Node) (words : ℕ → ℕ → Word) (after before : Word) (blocks : List ℕ) (place number : ℕ) : Type 0 where
  pub block : Block
  pub there : slice_get memory number ≡ Some block
  pub live : block.live ≡ true
  pub kind : block.kind ≡ object.kind
  pub size : length block.bytes ≡ object.size
  -- a byte of class 0 is 0, and one of class 1 a number
  pub zeros : (i : ℕ) → slice_get template.plane i ≡ Some 0 → slice_get block.bytes i ≡ Some (Num 0)
  pub numbers : (i : ℕ) → slice_get template.plane i ≡ Some 1 → (n : ℕ) × (slice_get block.bytes i ≡ Some (Num n))
  -- edges hold their words at this node
  pub edges : (i : ℕ) (edge : HasValue) → slice_get template.edges i ≡ Some edge → HoldsWord block.bytes edge (words number edge.value)
  -- the link of the last node is what lies behind, and that of each other the address of the next one
  pub next : (following : ℕ) → slice_get blocks (suc place) ≡ Some following → take 8 (drop links.next block.bytes) ≡ word_bytes (To following (pos links.head))
  pub last : slice_get blocks (suc place) ≡ None → take 8 (drop links.next block.bytes) ≡ word_bytes (moved after (pos links.head -ℤ pos links.head))
  -- the link back of the first node is what lies before, and that of each other the address of the one before it
  pub back : IsTrue links.twofold → (previous number' : ℕ) → place ≡ suc previous → slice_get blocks previous ≡ Some number' →
      take 8 (drop links.prev block.bytes) ≡ word_bytes (To number' (pos links.back))
  pub first : IsTrue links.twofold → place ≡ 0 → take 8 (drop links.prev block.bytes) ≡ word_bytes before

-- a segment stands for its least number of nodes at least, and each of its blocks is a node of it
pub record HasNodes (parts : Parts) (state : State) (given : Assignment) (key : ℕ) (object : Object) (links : Links) : Type 0 where
  pub enough : links.least ≤ length (given.blocks key)
  pub nodes : (place number : ℕ) → slice_get (given.blocks key) place ≡ Some number →
      IsNodeAt state.memory object links (node_of object) (word_at given.word (λ value. own_offset (value_at parts.values value))) (given.word links.next_value)
      (moved (given.word links.prev_value) (pos links.back -ℤ pos links.back)) (given.blocks key) place number

abbrev pub SegmentsHaveNodes : Type 0
SegmentsHaveNodes = (parts : Parts) (state : State) (given : Assignment) (key : ℕ) (object : Object) (links : Links) →
    IsWellFormed parts → Meets (maps_of parts) state given → object_at parts.objects key ≡ Some object → links_in object.shape ≡ Some links →
    HasNodes parts state given key object links

-- the words of addresses of a segment with these links and blocks
pub record HasAddresses (parts : Parts) (given : Assignment) (key : ℕ) (links : Links) : Type 0 where
  -- that of the first node, where there is one, and else what lies behind the segment, moved
  pub first : (value : ℕ) (offset : ℤ) (number : ℕ) → value_at parts.values value ≡ Some (Address key offset First) → slice_get (given.blocks key) 0 ≡ Some number → given.word value ≡ To number offset
  pub behind : (value : ℕ) (offset : ℤ) → value_at parts.values value ≡ Some (Address key offset First) → given.blocks key ≡ [] →
      given.word value ≡ moved (given.word links.next_value) (offset -ℤ pos links.head)
  -- that of the last node, where there is one, and else what lies before the segment, moved
  pub last : (value : ℕ) (offset : ℤ) (front : List ℕ) (number : ℕ) → value_at parts.values value ≡ Some (Address key offset Last) → given.blocks key ≡ front ++ number ∷ [] → given.word value ≡ To number offset
  pub before : (value : ℕ) (offset : ℤ) → value_at parts.values value ≡ Some (Address key offset Last) → given.blocks key ≡ [] →
      given.word value ≡ moved (given.word links.prev_value) (offset -ℤ pos links.back)

abbrev pub SegmentsHaveAddresses : Type 0
SegmentsHaveAddresses = (parts : Parts) (state : State) (given : Assignment) (key : ℕ) (object : Object) (links : Links) →
    Meets (maps_of parts) state given → object_at parts.objects key ≡ Some object → links_in object.shape ≡ Some links → HasAddresses parts given key links
