-- A graph whose keys are sent into those of another: what the other says of a state, it says too.
use Rattle.std.proofs.Common.{◌≡◌, ℕ, Bool, true, false, List, [], ◌∷◌, map, length, Option, None, Some, refl, sym, ◌∙◌, ap, subst}
use Rattle.std.specs.Prelude.{IsSome, option_map, slice_get, ℤ, pos}
use Rattle.std.specs.Option.{option_map_or}
use Rattle.std.proofs.lemmas.Option.{slice_get-map}
use Rattle.std.proofs.lemmas.Simd.{map-map}
use Rattle.bytes_core.specs.declared.byte.Byte.{Byte}
use Rattle.bytes_core.specs.declared.block.Block.{Block}
use Rattle.bytes_core.specs.declared.block.BlockKind.{BlockKind}
use Rattle.bytes_core.specs.declared.word.Word.{Word}
use Rattle.bytes_core.specs.declared.word.Word.TheVariants.{To}
use Rattle.graph.specs.declared.edges.HasValue.{HasValue}
use Rattle.graph.specs.declared.object.Object.{Object}
use Rattle.graph.specs.declared.object.Shape.{Shape}
use Rattle.graph.specs.declared.object.Shape.TheVariants.{Region, Segment}
use Rattle.graph.specs.declared.object.Links.{Links}
use Rattle.graph.specs.declared.template.Node.{Node}
use Rattle.graph.specs.declared.value.Value.{Value}
use Rattle.graph.specs.declared.value.Value.TheVariants.{Const, Number, Any, Address}
use Rattle.graph.specs.declared.parts.Pair.{Pair}
use Rattle.graph.specs.Renaming.{renamed_edge, renamed_node, renamed_shape, renamed_object, renamed_value, renamed_pair}
use Rattle.graph.specs.State.{State}
use Rattle.graph.specs.Closed.{IsClosed}
use Rattle.graph.specs.Nodes.{own_node}
use Rattle.graph.specs.Meaning.{HoldEdges, IsNode, AreNodes, word_at, HasShape, HasBlocksAs, HasBlocks, Ends, ends_in, ends_of, no_ends, address_word, HasWord, own_offset, IsRooted, Maps, Assignment, IsOwned, Meets}
use Rattle.graph.proofs.Found.{IsSome-holds, Holds-some}
use Rattle.graph.proofs.Frames.{OnNamed-weaker, Agrees, HasBlocks-agree}

-- what stands at each key of `one` stands, with keys sent on, at the key of `other` that it is sent to
pub record IsSent (one other : Maps) (of_objects of_values back : ℕ → ℕ) : Type 0 where
  pub closed : IsClosed one
  pub objects : (key : ℕ) (object : Object) → one.objects key ≡ Some object → other.objects (of_objects key) ≡ Some (renamed_object of_values object)
  pub values : (key : ℕ) (value : Value) → one.values key ≡ Some value → other.values (of_values key) ≡ Some (renamed_value of_objects value)
  -- the keys of objects are sent one to one and to all
  pub same : (key : ℕ) → IsSome (one.objects key) → back (of_objects key) ≡ key
  pub all : (key : ℕ) → IsSome (other.objects key) → IsSome (one.objects (back key)) × (of_objects (back key) ≡ key)
  pub variables : (variable : ℕ) → other.variables variable ≡ option_map of_objects (one.variables variable)
  pub registers : (register : ℕ) → other.registers register ≡ option_map of_values (one.registers register)
  pub ports : other.ports ≡ map of_values one.ports
  pub unequal : other.unequal ≡ map (renamed_pair of_values) one.unequal

-- the words and blocks of keys that are sent on
abbrev pub pulled : (ℕ → ℕ) → (ℕ → ℕ) → (ℕ → ℕ) → Assignment → Assignment
pulled of_objects of_values back given = record {
  word = λ key. given.word (of_values key);
  blocks = λ key. given.blocks (of_objects key);
  owner = λ number. back (given.owner number);
  place = given.place;
}

pub option_map-option_map : {A B C : Type 0} (f : A → B) (g : B → C) (o : Option A) → option_map g (option_map f o) ≡ option_map (λ x. g (f x)) o
option_map-option_map f g None = refl
option_map-option_map f g (Some x) = refl

HoldEdges-pulled : (of_values : ℕ → ℕ) (bytes : List Byte) (word : ℕ → Word) (edges : List HasValue) → HoldEdges bytes word (map (renamed_edge of_values) edges) → HoldEdges bytes (λ key. word (of_values key)) edges
HoldEdges-pulled of_values bytes word [] hold = tt
HoldEdges-pulled of_values bytes word (edge ∷ rest) hold = (hold.0, HoldEdges-pulled of_values bytes word rest hold.1)

IsNode-pulled : (of_values : ℕ → ℕ) (count : ℕ) (storage : BlockKind) (node : Node) (word : ℕ → Word) (block : Block) →
    IsNode count storage (renamed_node of_values node) word block → IsNode count storage node (λ key. word (of_values key)) block
IsNode-pulled of_values count storage node word block is = record {
  live = is.live;
  kind = is.kind;
  size = is.size;
  edges = HoldEdges-pulled of_values block.bytes word node.edges is.edges;
  classes = is.classes;
}

AreNodes-pulled : (of_values : ℕ → ℕ) (memory : List Block) (object : Object) (links : Links) (next_value prev_value : ℕ) (node : Node) (word : ℕ → Word) (own : ℕ → Option ℤ) (after before : Word) (blocks : List ℕ) →
    AreNodes memory (renamed_object of_values object) (record links { next_value = next_value; prev_value = prev_value }) (renamed_node of_values node) word own after before blocks →
    AreNodes memory object links node (λ key. word (of_values key)) (λ key. own (of_values key)) after before blocks
AreNodes-pulled of_values memory object links next_value prev_value node word own after before [] are = tt
AreNodes-pulled of_values memory object links next_value prev_value node word own after before (number ∷ rest) (is, others) = (
  record {
    block = is.block;
    there = is.there;
    node = IsNode-pulled of_values object.size object.kind node (word_at word own number) is.block is.node;
    next = is.next;
    prev = is.prev;
  },
  AreNodes-pulled of_values memory object links next_value prev_value node word own after (To number (pos links.back)) rest others,
)

HasShape-pulled : (of_values : ℕ → ℕ) (shape : Shape) (memory : List Block) (object : Object) (word : ℕ → Word) (own : ℕ → Option ℤ) (blocks : List ℕ) →
    HasShape (renamed_shape of_values shape) memory (renamed_object of_values object) word own blocks → HasShape shape memory object (λ key. word (of_values key)) (λ key. own (of_values key)) blocks
HasShape-pulled of_values Region memory object word own blocks (number, is, at) =
    (number, is, record { block = at.block; there = at.there; node = IsNode-pulled of_values object.size object.kind (own_node object) word at.block at.node })
HasShape-pulled of_values (Segment twofold head next prev back least next_value prev_value node) memory object word own blocks (enough, are) = (
  enough,
  AreNodes-pulled of_values memory object
      (record { twofold = twofold; head = head; next = next; prev = prev; back = back; least = least; next_value = next_value; prev_value = prev_value })
      (of_values next_value) (of_values prev_value) node word own _ _ blocks are,
)

HasBlocks-pulled : (of_values : ℕ → ℕ) (live : Bool) (memory : List Block) (object : Object) (word : ℕ → Word) (own : ℕ → Option ℤ) (blocks : List ℕ) →
    HasBlocksAs live memory (renamed_object of_values object) word own blocks → HasBlocksAs live memory object (λ key. word (of_values key)) (λ key. own (of_values key)) blocks
HasBlocks-pulled of_values true memory object word own blocks has = HasShape-pulled of_values object.shape memory object word own blocks has
HasBlocks-pulled of_values false memory object word own blocks has = has

-- what lies beyond an object's ends
ends-pulled : (of_values : ℕ → ℕ) (shape : Shape) (word : ℕ → Word) → ends_in (renamed_shape of_values shape) word ≡ ends_in shape (λ key. word (of_values key))
ends-pulled of_values Region word = refl
ends-pulled of_values (Segment twofold head next prev back least next_value prev_value node) word = refl

own-renamed : (of_objects : ℕ → ℕ) (value : Value) → own_offset (Some (renamed_value of_objects value)) ≡ own_offset (Some value)
own-renamed of_objects (Const number size) = refl
own-renamed of_objects (Number size) = refl
own-renamed of_objects Any = refl
own-renamed of_objects (Address object offset target) = refl

IsRooted-pulled : (of_objects : ℕ → ℕ) (roots : List ℕ) (value : Value) (word : Word) → IsRooted roots (Some (renamed_value of_objects value)) word → IsRooted roots (Some value) word
IsRooted-pulled of_objects roots (Const number size) word rooted = tt
IsRooted-pulled of_objects roots (Number size) word rooted = tt
IsRooted-pulled of_objects roots Any word rooted = tt
IsRooted-pulled of_objects roots (Address object offset target) word rooted = rooted

module _ (one other : Maps) (of_objects of_values back : ℕ → ℕ) (sent : IsSent one other of_objects of_values back) where
  there : (key : ℕ) → IsSome (one.objects key) → IsSome (other.objects (of_objects key))
  there key some =
      let held = Holds-some (one.objects key) some in
      IsSome-holds _ _ (sent.objects key held.item held.is)

  -- the same ends
  ends_there : (word : ℕ → Word) (key : ℕ) → IsSome (one.objects key) → ends_of other.objects word (of_objects key) ≡ ends_of one.objects (λ value. word (of_values value)) key
  ends_there word key some =
      let held = Holds-some (one.objects key) some in
      ap (λ (o : Option Object). option_map_or (λ object. ends_in object.shape word) o no_ends) (sent.objects key held.item held.is)
      ∙ ends-pulled of_values held.item.shape word
      ∙ sym (ap (λ (o : Option Object). option_map_or (λ object. ends_in object.shape (λ value. word (of_values value))) o no_ends) held.is)

  has_word : (count : ℕ) (blocks : ℕ → List ℕ) (word : ℕ → Word) (key : ℕ) (value : Value) → one.values key ≡ Some value → (w : Word) → HasWord count blocks (ends_of other.objects word) (renamed_value of_objects value) w →
      HasWord count (λ object. blocks (of_objects object)) (ends_of one.objects (λ value. word (of_values value))) value w
  has_word count blocks word key (Const number size) is w has = has
  has_word count blocks word key (Number size) is w has = has
  has_word count blocks word key Any is w has = has
  has_word count blocks word key (Address object offset target) is w has =
      has ∙ ap (λ (ends : Ends). address_word target (blocks (of_objects object)) ends offset) (ends_there word object (sent.closed.addresses key object offset target is))

  own_there : (key : ℕ) → IsSome (one.values key) → own_offset (other.values (of_values key)) ≡ own_offset (one.values key)
  own_there key some =
      let held = Holds-some (one.values key) some in
      ap own_offset (sent.values key held.item held.is) ∙ own-renamed of_objects held.item ∙ sym (ap own_offset held.is)

  has_blocks : (memory : List Block) (word : ℕ → Word) (key : ℕ) (object : Object) (blocks : List ℕ) → one.objects key ≡ Some object →
      HasBlocks memory (renamed_object of_values object) word (λ value. own_offset (other.values value)) blocks →
      HasBlocks memory object (λ value. word (of_values value)) (λ value. own_offset (one.values value)) blocks
  has_blocks memory word key object blocks is has =
      HasBlocks-agree (λ value. word (of_values value)) (λ value. word (of_values value)) (λ value. own_offset (other.values (of_values value))) (λ value. own_offset (one.values value)) object.live memory object blocks
      (OnNamed-weaker (λ value. IsSome (one.values value))
      (Agrees (λ value. word (of_values value)) (λ value. word (of_values value)) (λ value. own_offset (other.values (of_values value))) (λ value. own_offset (one.values value)))
      (λ value some. (refl, own_there value some)) object.shape (own_node object) (sent.closed.objects key object is))
      (HasBlocks-pulled of_values object.live memory object word (λ value. own_offset (other.values value)) blocks has)

  port_sent : (place port : ℕ) → slice_get one.ports place ≡ Some port → slice_get other.ports place ≡ Some (of_values port)
  port_sent place port is = ap (λ (ports : List ℕ). slice_get ports place) sent.ports ∙ slice_get-map of_values one.ports place ∙ ap (option_map of_values) is

  pair_sent : (place : ℕ) (pair : Pair) → slice_get one.unequal place ≡ Some pair → slice_get other.unequal place ≡ Some (renamed_pair of_values pair)
  pair_sent place pair is = ap (λ (pairs : List Pair). slice_get pairs place) sent.unequal ∙ slice_get-map (renamed_pair of_values) one.unequal place ∙ ap (option_map (renamed_pair of_values)) is

  rooted_value : (roots : List ℕ) (key : ℕ) (word : Word) (found : Option Value) → one.values key ≡ found → IsRooted roots (other.values (of_values key)) word → IsRooted roots found word
  rooted_value roots key word None is rooted = tt
  rooted_value roots key word (Some value) is rooted = IsRooted-pulled of_objects roots value word (subst (λ (o : Option Value). IsRooted roots o word) (sent.values key value is) rooted)

  owned : (state : State) (given : Assignment) (number : ℕ) → IsOwned other given number → IsOwned one (pulled of_objects of_values back given) number
  owned state given number is = record {
    object = (sent.all (given.owner number) is.object).0;
    block = subst (λ (key : ℕ). slice_get (given.blocks key) (given.place number) ≡ Some number) (sym (sent.all (given.owner number) is.object).1) is.block;
  }

  pub Meets-pulled : (state : State) (given : Assignment) → Meets other state given → Meets one state (pulled of_objects of_values back given)
  Meets-pulled state given meets = record {
    values = λ key value is. has_word (length state.memory) given.blocks given.word key value is (given.word (of_values key)) (meets.values (of_values key) (renamed_value of_objects value) (sent.values key value is));
    objects = λ key object is. has_blocks state.memory given.word key object (given.blocks (of_objects key)) is (meets.objects (of_objects key) (renamed_object of_values object) (sent.objects key object is));
    owners = λ key place number some stands. ap back (meets.owners (of_objects key) place number (there key some) stands) ∙ sent.same key some;
    places = λ key place number some stands. meets.places (of_objects key) place number (there key some) stands;
    used = λ number block stands live. owned state given number (meets.used number block stands live);
    variables = λ variable. meets.variables variable ∙ ap (option_map given.blocks) (sent.variables variable) ∙ option_map-option_map of_objects given.blocks (one.variables variable);
    registers = λ register. meets.registers register ∙ ap (option_map given.word) (sent.registers register) ∙ option_map-option_map of_values given.word (one.registers register);
    ports = meets.ports ∙ ap (map given.word) sent.ports ∙ map-map given.word of_values one.ports;
    rooted = λ place port is. rooted_value state.roots port (given.word (of_values port)) (one.values port) refl (meets.rooted place (of_values port) (port_sent place port is));
    unequal = λ place pair is. meets.unequal place (renamed_pair of_values pair) (pair_sent place pair is);
  }
