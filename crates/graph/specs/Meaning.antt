-- Which states a graph stands for.
--
-- A graph stands for a state where words can be given to its values and blocks to its objects so that all that
-- the graph says holds. What an object, an edge or a class says of a block takes the block and the words alone,
-- never the graph.
use Rattle.std.specs.Prelude.{◌≡◌, ◌≢◌, ℕ, zero, suc, ◌^◌, ◌<◌, ◌≤◌, Bool, true, false, List, [], ◌∷◌, map, length, take, drop, slice_get, ℤ, pos, ◌-ℤ◌, Option, None, Some, IsSome, option_map, Contains}
use Rattle.std.specs.Option.{option_map_or}
use Rattle.bytes_core.specs.declared.byte.Byte.{Byte}
use Rattle.bytes_core.specs.declared.byte.Byte.TheVariants.{Num, Part}
use Rattle.bytes_core.specs.declared.block.BlockKind.{BlockKind}
use Rattle.bytes_core.specs.declared.block.Block.{Block}
use Rattle.bytes_core.specs.declared.word.Word.{Word}
use Rattle.bytes_core.specs.declared.word.Word.TheVariants.{Plain, To}
use Rattle.bytes_core.specs.Value.{word_bytes, moved}
use Rattle.graph.specs.declared.edges.HasValue.{HasValue}
use Rattle.graph.specs.declared.object.Links.{Links}
use Rattle.graph.specs.declared.object.Object.{Object}
use Rattle.graph.specs.declared.object.Shape.{Shape}
use Rattle.graph.specs.declared.object.Shape.TheVariants.{Region as RegionShape, Segment}
use Rattle.graph.specs.declared.value.Target.{Target}
use Rattle.graph.specs.declared.value.Target.TheVariants.{Region, First, Last, Each}
use Rattle.graph.specs.declared.value.Value.{Value}
use Rattle.graph.specs.declared.value.Value.TheVariants.{Const, Number, Any, Address}
use Rattle.graph.specs.declared.template.Node.{Node}
use Rattle.graph.specs.declared.parts.Pair.{Pair}
use Rattle.graph.specs.declared.parts.Parts.{Parts}
use Rattle.graph.specs.Maps.{object_at, value_at, storage_of, held_by}
use Rattle.graph.specs.Nodes.{own_node}
use Rattle.graph.specs.State.{State, IsWordBelow}

-- Bytes.

-- a byte has class 0 where it is the number 0, class 1 where it is a number, and class 2 always
abbrev pub HasClass : ℕ → Byte → Type 0
HasClass zero (Num number) = number ≡ 0
HasClass zero (Part block offset k) = ⊥
HasClass (suc zero) (Num number) = Unit {0}
HasClass (suc zero) (Part block offset k) = ⊥
HasClass (suc (suc class)) byte = Unit {0}

-- each byte has its class, and there is one class a byte
abbrev pub HaveClasses : List ℕ → List Byte → Type 0
HaveClasses [] [] = Unit {0}
HaveClasses [] (byte ∷ bytes) = ⊥
HaveClasses (class ∷ plane) [] = ⊥
HaveClasses (class ∷ plane) (byte ∷ bytes) = HasClass class byte × HaveClasses plane bytes

-- the bytes of the edge's range are the lowest ones of the word
abbrev pub HoldsWord : List Byte → HasValue → Word → Type 0
HoldsWord bytes edge word = take edge.size (drop edge.at bytes) ≡ take edge.size (word_bytes word)

-- the bytes hold the word of each edge's value
abbrev pub HoldEdges : List Byte → (ℕ → Word) → List HasValue → Type 0
HoldEdges bytes word [] = Unit {0}
HoldEdges bytes word (edge ∷ rest) = HoldsWord bytes edge (word edge.value) × HoldEdges bytes word rest

-- the eight bytes from a place on are those of the word
abbrev pub HoldsAt : List Byte → ℕ → Word → Type 0
HoldsAt bytes at word = take 8 (drop at bytes) ≡ word_bytes word

-- so they are at the place of the link back, where there is one
abbrev pub HoldsBack : Bool → List Byte → ℕ → Word → Type 0
HoldsBack false bytes at word = Unit {0}
HoldsBack true bytes at word = HoldsAt bytes at word

-- Blocks.

-- a live block of this size and kind meets all that is said of its bytes
pub record IsNode (count : ℕ) (storage : BlockKind) (node : Node) (word : ℕ → Word) (block : Block) : Type 0 where
  pub live : block.live ≡ true
  pub kind : block.kind ≡ storage
  pub size : length block.bytes ≡ count
  pub edges : HoldEdges block.bytes word node.edges
  pub classes : HaveClasses node.plane block.bytes

-- the block with this number is there, and meets all that a region says of it
pub record StandsAt (memory : List Block) (object : Object) (word : ℕ → Word) (number : ℕ) : Type 0 where
  pub block : Block
  pub there : slice_get memory number ≡ Some block
  pub node : IsNode object.size object.kind (own_node object) word block

-- the block with this number is there, meets all that is said of a node, and holds these words as its links
pub record IsLinked (memory : List Block) (object : Object) (links : Links) (template : Node) (word : ℕ → Word) (onward backward : Word) (number : ℕ) : Type 0 where
  pub block : Block
  pub there : slice_get memory number ≡ Some block
  pub node : IsNode object.size object.kind template word block
  pub next : HoldsAt block.bytes links.next onward
  pub prev : HoldsBack links.twofold block.bytes links.prev backward

-- a block of a dead object is gone, or dead and of the object's kind; its size is free
abbrev pub IsGone : BlockKind → Option Block → Type 0
IsGone kind None = Unit {0}
IsGone kind (Some block) = (block.live ≡ false) × (block.kind ≡ kind)

-- Segments.

abbrev pub first_of : List ℕ → Option ℕ
first_of [] = None
first_of (number ∷ rest) = Some number

abbrev pub last_or : ℕ → List ℕ → ℕ
last_or number [] = number
last_or number (next ∷ rest) = last_or next rest

abbrev pub last_of : List ℕ → Option ℕ
last_of [] = None
last_of (number ∷ rest) = Some (last_or number rest)

-- the address at an offset of the node at an end of a segment. Where there is no node it is the word that lies beyond that end,
-- moved by how far the offset lies behind the place to which links lead; a number is moved modulo 2^64
abbrev pub end_word : Option ℕ → Word → ℕ → ℤ → Word
end_word None beyond place offset = moved beyond (offset -ℤ pos place)
end_word (Some number) beyond place offset = To number offset

-- a value that is each node's own address has its word at a node, and any other value has one word
abbrev pub own_word : Option ℤ → Word → ℕ → Word
own_word None word number = word
own_word (Some offset) word number = To number offset

abbrev pub word_at : (ℕ → Word) → (ℕ → Option ℤ) → ℕ → ℕ → Word
word_at word own number key = own_word (own key) (word key) number

-- the blocks are the nodes of a segment, behind which and before which these words lie. Each node holds the address of the first node
-- of the rest, and the rest lies behind this node
abbrev pub AreNodes : List Block → Object → Links → Node → (ℕ → Word) → (ℕ → Option ℤ) → Word → Word → List ℕ → Type 0
AreNodes memory object links node word own after before [] = Unit {0}
AreNodes memory object links node word own after before (number ∷ rest) =
    IsLinked memory object links node (word_at word own number) (end_word (first_of rest) after links.head (pos links.head)) before number
    × AreNodes memory object links node word own after (To number (pos links.back)) rest

-- a segment stands for as many nodes as there are blocks, and for its least number at least. The link back of the first node is the
-- word before the segment
abbrev pub IsSegment : List Block → Object → Links → Node → (ℕ → Word) → (ℕ → Option ℤ) → List ℕ → Type 0
IsSegment memory object links node word own blocks =
    (links.least ≤ length blocks)
    × AreNodes memory object links node word own (word links.next_value) (end_word None (word links.prev_value) links.back (pos links.back)) blocks

-- a live object of this shape stands for these blocks
abbrev pub HasShape : Shape → List Block → Object → (ℕ → Word) → (ℕ → Option ℤ) → List ℕ → Type 0
HasShape RegionShape memory object word own blocks = (number : ℕ) × (blocks ≡ number ∷ []) × StandsAt memory object word number
HasShape (Segment twofold head next prev back least next_value prev_value node) memory object word own blocks =
    IsSegment memory object
    (record { twofold = twofold; head = head; next = next; prev = prev; back = back; least = least; next_value = next_value; prev_value = prev_value })
    node word own blocks

-- a dead object stands for one block that is gone
abbrev pub IsDead : List Block → BlockKind → List ℕ → Type 0
IsDead memory kind blocks = (number : ℕ) × (blocks ≡ number ∷ []) × IsGone kind (slice_get memory number)

-- an object that lives, or does not, stands for these blocks
abbrev pub HasBlocksAs : Bool → List Block → Object → (ℕ → Word) → (ℕ → Option ℤ) → List ℕ → Type 0
HasBlocksAs true memory object word own blocks = HasShape object.shape memory object word own blocks
HasBlocksAs false memory object word own blocks = IsDead memory object.kind blocks

abbrev pub HasBlocks : List Block → Object → (ℕ → Word) → (ℕ → Option ℤ) → List ℕ → Type 0
HasBlocks memory object word own blocks = HasBlocksAs object.live memory object word own blocks

-- Words.

-- the words beyond the two ends of a segment, and where its nodes are linked
pub record Ends : Type 0 where
  pub head : ℕ
  pub back : ℕ
  pub after : Word
  pub before : Word

abbrev pub ends_in : Shape → (ℕ → Word) → Ends
ends_in RegionShape word = record { head = 0; back = 0; after = Plain 0; before = Plain 0 }
ends_in (Segment twofold head next prev back least next_value prev_value node) word =
    record { head = head; back = back; after = word next_value; before = word prev_value }

abbrev pub no_ends : Ends
no_ends = record { head = 0; back = 0; after = Plain 0; before = Plain 0 }

abbrev pub ends_of : (ℕ → Option Object) → (ℕ → Word) → ℕ → Ends
ends_of objects word key = option_map_or (λ object. ends_in object.shape word) (objects key) no_ends

abbrev pub block_word : Option ℕ → ℤ → Word
block_word None offset = Plain 0
block_word (Some number) offset = To number offset

-- the pointer to an offset of the block of these that a target means. An address that is each node's own has no word but at a
-- node; it counts as 0
abbrev pub address_word : Target → List ℕ → Ends → ℤ → Word
address_word Region blocks ends offset = block_word (first_of blocks) offset
address_word First blocks ends offset = end_word (first_of blocks) ends.after ends.head offset
address_word Last blocks ends offset = end_word (last_of blocks) ends.before ends.back offset
address_word Each blocks ends offset = Plain 0

-- a value stands for a word, in a memory of `count` blocks, where each object has these blocks and these ends
abbrev pub HasWord : ℕ → (ℕ → List ℕ) → (ℕ → Ends) → Value → Word → Type 0
HasWord count blocks ends (Const number size) word = word ≡ Plain number
HasWord count blocks ends (Number size) word = (number : ℕ) × (word ≡ Plain number) × (number < 256 ^ size)
HasWord count blocks ends Any word = IsWordBelow count word
HasWord count blocks ends (Address object offset target) word = word ≡ address_word target (blocks object) (ends object) offset

-- the offset of a value that is each node's own address
abbrev pub target_offset : Target → ℤ → Option ℤ
target_offset Region offset = None
target_offset First offset = None
target_offset Last offset = None
target_offset Each offset = Some offset

abbrev pub own_offset : Option Value → Option ℤ
own_offset None = None
own_offset (Some (Const number size)) = None
own_offset (Some (Number size)) = None
own_offset (Some Any) = None
own_offset (Some (Address object offset target)) = target_offset target offset

-- the block that a word leads to, if it leads to one, is among the roots
abbrev pub IsRootedWord : List ℕ → Word → Type 0
IsRootedWord roots (Plain number) = Unit {0}
IsRootedWord roots (To block offset) = Contains roots block

-- so it is where the value is an address
abbrev pub IsRooted : List ℕ → Option Value → Word → Type 0
IsRooted roots None word = Unit {0}
IsRooted roots (Some (Const number size)) word = Unit {0}
IsRooted roots (Some (Number size)) word = Unit {0}
IsRooted roots (Some Any) word = Unit {0}
IsRooted roots (Some (Address object offset target)) word = IsRootedWord roots word

-- Graphs.

-- a graph as finite maps
pub record Maps : Type 0 where
  pub objects : ℕ → Option Object
  pub values : ℕ → Option Value
  pub variables : ℕ → Option ℕ
  pub registers : ℕ → Option ℕ
  pub ports : List ℕ
  pub unequal : List Pair

abbrev pub maps_of : Parts → Maps
maps_of parts = record {
  objects = object_at parts.objects;
  values = value_at parts.values;
  variables = storage_of parts.variables;
  registers = held_by parts.registers;
  ports = parts.ports;
  unequal = parts.unequal;
}

-- the word of each value and the blocks of each object; and back from a block to its object, and to its place
-- among the blocks of that object
pub record Assignment : Type 0 where
  pub word : ℕ → Word
  pub blocks : ℕ → List ℕ
  pub owner : ℕ → ℕ
  pub place : ℕ → ℕ

-- a block belongs to the object that is its owner, at its place
pub record IsOwned (maps : Maps) (given : Assignment) (number : ℕ) : Type 0 where
  pub object : IsSome (maps.objects (given.owner number))
  pub block : slice_get (given.blocks (given.owner number)) (given.place number) ≡ Some number

-- all that the graph says holds of the state, with these words and blocks
pub record Meets (maps : Maps) (state : State) (given : Assignment) : Type 0 where
  -- each value has its word
  pub values : (key : ℕ) (value : Value) → maps.values key ≡ Some value →
      HasWord (length state.memory) given.blocks (ends_of maps.objects given.word) value (given.word key)
  -- each object has its blocks
  pub objects : (key : ℕ) (object : Object) → maps.objects key ≡ Some object →
      HasBlocks state.memory object given.word (λ value. own_offset (maps.values value)) (given.blocks key)
  -- different objects and places have different blocks
  pub owners : (key place number : ℕ) → IsSome (maps.objects key) → slice_get (given.blocks key) place ≡ Some number → given.owner number ≡ key
  pub places : (key place number : ℕ) → IsSome (maps.objects key) → slice_get (given.blocks key) place ≡ Some number → given.place number ≡ place
  -- all live blocks are used
  pub used : (number : ℕ) (block : Block) → slice_get state.memory number ≡ Some block → block.live ≡ true → IsOwned maps given number
  -- exactly the variables that the graph names are there, and each has the one block of its object
  pub variables : (variable : ℕ) → option_map (λ number. number ∷ []) (state.variables variable) ≡ option_map given.blocks (maps.variables variable)
  -- exactly the registers that the graph lists hold something, and each holds the word of its value
  pub registers : (register : ℕ) → state.registers register ≡ option_map given.word (maps.registers register)
  -- the ports have the words of their values, and what those of addresses lead to is held
  pub ports : state.ports ≡ map given.word maps.ports
  pub rooted : (place port : ℕ) → slice_get maps.ports place ≡ Some port → IsRooted state.roots (maps.values port) (given.word port)
  -- the words of unequal pairs differ
  pub unequal : (place : ℕ) (pair : Pair) → slice_get maps.unequal place ≡ Some pair → given.word pair.left ≢ given.word pair.right

-- a graph stands for a state
pub record StandsForBy (maps : Maps) (state : State) : Type 0 where
  pub given : Assignment
  pub meets : Meets maps state given

abbrev pub StandsFor : Parts → State → Type 0
StandsFor parts state = StandsForBy (maps_of parts) state
