-- What an object means takes the words of the values that it names, and the blocks that it stands for.
use Rattle.std.proofs.Common.{◌≡◌, ℕ, suc, Bool, true, false, List, [], ◌∷◌, Option, None, Some, take, drop, refl, sym, ◌∙◌, ap, subst}
use Rattle.std.specs.Prelude.{slice_get, ℤ, pos}
use Rattle.bytes_core.specs.declared.byte.Byte.{Byte}
use Rattle.bytes_core.specs.declared.block.Block.{Block}
use Rattle.bytes_core.specs.declared.block.BlockKind.{BlockKind}
use Rattle.bytes_core.specs.declared.word.Word.{Word}
use Rattle.bytes_core.specs.declared.word.Word.TheVariants.{To}
use Rattle.bytes_core.specs.Value.{word_bytes}
use Rattle.graph.specs.declared.edges.HasValue.{HasValue}
use Rattle.graph.specs.declared.object.Links.{Links}
use Rattle.graph.specs.declared.object.Object.{Object}
use Rattle.graph.specs.declared.object.Shape.{Shape}
use Rattle.graph.specs.declared.object.Shape.TheVariants.{Region, Segment}
use Rattle.graph.specs.declared.template.Node.{Node}
use Rattle.graph.specs.Nodes.{own_node}
use Rattle.graph.specs.Closed.{OnEdges, OnEnds, OnNamed}
use Rattle.graph.specs.Meaning.{HoldEdges, IsNode, IsGone, AreNodes, end_word, own_word, word_at, HasShape, HasBlocksAs}

-- Implications of what holds of all values that an object names.

pub OnEdges-all : (P : ℕ → Type 0) → ((key : ℕ) → P key) → (edges : List HasValue) → OnEdges P edges
OnEdges-all P each [] = tt
OnEdges-all P each (edge ∷ rest) = (each edge.value, OnEdges-all P each rest)

pub OnEdges-weaker : (P Q : ℕ → Type 0) → ((key : ℕ) → P key → Q key) → (edges : List HasValue) → OnEdges P edges → OnEdges Q edges
OnEdges-weaker P Q implies [] on = tt
OnEdges-weaker P Q implies (edge ∷ rest) on = (implies edge.value on.0, OnEdges-weaker P Q implies rest on.1)

OnEnds-weaker : (P Q : ℕ → Type 0) → ((key : ℕ) → P key → Q key) → (shape : Shape) → OnEnds P shape → OnEnds Q shape
OnEnds-weaker P Q implies Region on = tt
OnEnds-weaker P Q implies (Segment twofold head next prev back least next_value prev_value node) on = (implies next_value on.0, implies prev_value on.1)

pub OnNamed-weaker : (P Q : ℕ → Type 0) → ((key : ℕ) → P key → Q key) → (shape : Shape) (own : Node) → OnNamed P shape own → OnNamed Q shape own
OnNamed-weaker P Q implies shape own on = (OnEdges-weaker P Q implies _ on.0, OnEnds-weaker P Q implies shape on.1)

OnEdges-both : (P Q R : ℕ → Type 0) → ((key : ℕ) → P key → Q key → R key) → (edges : List HasValue) → OnEdges P edges → OnEdges Q edges → OnEdges R edges
OnEdges-both P Q R implies [] one other = tt
OnEdges-both P Q R implies (edge ∷ rest) one other = (implies edge.value one.0 other.0, OnEdges-both P Q R implies rest one.1 other.1)

OnEnds-both : (P Q R : ℕ → Type 0) → ((key : ℕ) → P key → Q key → R key) → (shape : Shape) → OnEnds P shape → OnEnds Q shape → OnEnds R shape
OnEnds-both P Q R implies Region one other = tt
OnEnds-both P Q R implies (Segment twofold head next prev back least next_value prev_value node) one other = (implies next_value one.0 other.0, implies prev_value one.1 other.1)

pub OnNamed-both : (P Q R : ℕ → Type 0) → ((key : ℕ) → P key → Q key → R key) → (shape : Shape) (own : Node) → OnNamed P shape own → OnNamed Q shape own → OnNamed R shape own
OnNamed-both P Q R implies shape own one other = (OnEdges-both P Q R implies _ one.0 other.0, OnEnds-both P Q R implies shape one.1 other.1)

-- Words that agree.

pub HoldEdges-agree : (bytes : List Byte) (word word' : ℕ → Word) (edges : List HasValue) → OnEdges (λ key. word key ≡ word' key) edges → HoldEdges bytes word edges → HoldEdges bytes word' edges
HoldEdges-agree bytes word word' [] agree hold = tt
HoldEdges-agree bytes word word' (edge ∷ rest) agree hold = (
  subst (λ (w : Word). take edge.size (drop edge.at bytes) ≡ take edge.size (word_bytes w)) agree.0 hold.0,
  HoldEdges-agree bytes word word' rest agree.1 hold.1,
)

pub IsNode-agree : (count : ℕ) (storage : BlockKind) (node : Node) (word word' : ℕ → Word) (block : Block) → OnEdges (λ key. word key ≡ word' key) node.edges → IsNode count storage node word block → IsNode count storage node word' block
IsNode-agree count storage node word word' block agree is = record {
  live = is.live;
  kind = is.kind;
  size = is.size;
  edges = HoldEdges-agree block.bytes word word' node.edges agree is.edges;
  classes = is.classes;
}

module _ (word word' : ℕ → Word) (own own' : ℕ → Option ℤ) where
  -- a value has the same word, and is a node's own address in the same way
  abbrev pub Agrees : ℕ → Type 0
  Agrees key = (word key ≡ word' key) × (own key ≡ own' key)

  at_node : (number key : ℕ) → Agrees key → word_at word own number key ≡ word_at word' own' number key
  at_node number key (same, alike) = ap (λ (w : Word). own_word (own key) w number) same ∙ ap (λ (o : Option ℤ). own_word o (word' key) number) alike

  AreNodes-agree : (memory : List Block) (object : Object) (links : Links) (node : Node) → OnEdges Agrees node.edges → (after before : Word) (blocks : List ℕ) →
      AreNodes memory object links node word own after before blocks → AreNodes memory object links node word' own' after before blocks
  AreNodes-agree memory object links node agree after before [] are = tt
  AreNodes-agree memory object links node agree after before (number ∷ rest) (is, others) = (
    record {
      block = is.block;
      there = is.there;
      node = IsNode-agree object.size object.kind node (word_at word own number) (word_at word' own' number) is.block
          (OnEdges-weaker Agrees (λ key. word_at word own number key ≡ word_at word' own' number key) (at_node number) node.edges agree) is.node;
      next = is.next;
      prev = is.prev;
    },
    AreNodes-agree memory object links node agree after (To number (pos links.back)) rest others,
  )

  HasShape-agree : (shape : Shape) (memory : List Block) (object : Object) (blocks : List ℕ) → OnNamed Agrees shape (own_node object) →
      HasShape shape memory object word own blocks → HasShape shape memory object word' own' blocks
  HasShape-agree Region memory object blocks (agree, ends) (number, is, at) = (
    number,
    is,
    record {
      block = at.block;
      there = at.there;
      node = IsNode-agree object.size object.kind (own_node object) word word' at.block (OnEdges-weaker Agrees (λ key. word key ≡ word' key) (λ key both. both.0) object.edges agree) at.node;
    },
  )
  HasShape-agree (Segment twofold head next prev back least next_value prev_value node) memory object blocks (agree, (after, before)) (enough, are) =
      let links : Links = record { twofold = twofold; head = head; next = next; prev = prev; back = back; least = least; next_value = next_value; prev_value = prev_value } in (
        enough,
        subst (λ (w : Word). AreNodes memory object links node word' own' w (end_word None (word' prev_value) back (pos back)) blocks) after.0
            (subst (λ (w : Word). AreNodes memory object links node word' own' (word next_value) (end_word None w back (pos back)) blocks) before.0
            (AreNodes-agree memory object links node agree (word next_value) (end_word None (word prev_value) back (pos back)) blocks are)),
      )

  -- words that agree at all values that an object names: it means the same
  pub HasBlocks-agree : (live : Bool) (memory : List Block) (object : Object) (blocks : List ℕ) → OnNamed Agrees object.shape (own_node object) →
      HasBlocksAs live memory object word own blocks → HasBlocksAs live memory object word' own' blocks
  HasBlocks-agree true memory object blocks agree has = HasShape-agree object.shape memory object blocks agree has
  HasBlocks-agree false memory object blocks agree has = has

-- A memory that is the same at the blocks of an object.

module _ (memory memory' : List Block) (object : Object) (word : ℕ → Word) (own : ℕ → Option ℤ) where
  AreNodes-frame : (links : Links) (node : Node) (after before : Word) (blocks : List ℕ) →
      ((place number : ℕ) → slice_get blocks place ≡ Some number → slice_get memory' number ≡ slice_get memory number) →
      AreNodes memory object links node word own after before blocks → AreNodes memory' object links node word own after before blocks
  AreNodes-frame links node after before [] same are = tt
  AreNodes-frame links node after before (number ∷ rest) same (is, others) = (
    record { block = is.block; there = same 0 number refl ∙ is.there; node = is.node; next = is.next; prev = is.prev },
    AreNodes-frame links node after (To number (pos links.back)) rest (λ place next stands. same (suc place) next stands) others,
  )

  HasShape-frame : (shape : Shape) (blocks : List ℕ) → ((place number : ℕ) → slice_get blocks place ≡ Some number → slice_get memory' number ≡ slice_get memory number) →
      HasShape shape memory object word own blocks → HasShape shape memory' object word own blocks
  HasShape-frame Region blocks same (number, is, at) = (
    number,
    is,
    record {
      block = at.block;
      there = same 0 number (ap (λ (bs : List ℕ). slice_get bs 0) is) ∙ at.there;
      node = at.node;
    },
  )
  HasShape-frame (Segment twofold head next prev back least next_value prev_value node) blocks same (enough, are) =
      (enough, AreNodes-frame (record { twofold = twofold; head = head; next = next; prev = prev; back = back; least = least; next_value = next_value; prev_value = prev_value }) node _ _ blocks same are)

  -- a change of memory outside the blocks of an object keeps what the object means
  pub HasBlocks-frame : (live : Bool) (blocks : List ℕ) → ((place number : ℕ) → slice_get blocks place ≡ Some number → slice_get memory' number ≡ slice_get memory number) →
      HasBlocksAs live memory object word own blocks → HasBlocksAs live memory' object word own blocks
  HasBlocks-frame true blocks same has = HasShape-frame object.shape blocks same has
  HasBlocks-frame false blocks same (number, is, gone) =
      (number, is, subst (IsGone object.kind) (sym (same 0 number (ap (λ (bs : List ℕ). slice_get bs 0) is))) gone)
