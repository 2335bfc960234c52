-- The nodes of a segment, one by one, and its addresses.
use Rattle.std.proofs.Common.{◌≡◌, ℕ, zero, suc, Bool, true, false, ◌&&◌, ◌||◌, List, [], ◌∷◌, ◌++◌, take, drop, slice_get, Option, None, Some, refl, sym, ◌∙◌, ap, subst, arith}
use Rattle.std.specs.Prelude.{ℤ, pos, ◌-ℤ◌, IsTrue}
use Rattle.std.specs.Option.{option_map_or}
use Rattle.std.proofs.lemmas.Bool.{false≢true}
use Rattle.std.proofs.lemmas.Option.{same_Some, none-some}
use Rattle.bytes_core.specs.declared.byte.Byte.{Byte}
use Rattle.bytes_core.specs.declared.byte.Byte.TheVariants.{Num, Part}
use Rattle.bytes_core.specs.declared.block.Block.{Block}
use Rattle.bytes_core.specs.declared.word.Word.{Word}
use Rattle.bytes_core.specs.declared.word.Word.TheVariants.{To}
use Rattle.bytes_core.specs.Release.{is_heap}
use Rattle.bytes_core.specs.Value.{word_bytes, moved}
use Rattle.graph.specs.declared.edges.HasValue.{HasValue}
use Rattle.graph.specs.declared.object.Links.{Links}
use Rattle.graph.specs.declared.object.Object.{Object}
use Rattle.graph.specs.declared.object.Shape.{Shape}
use Rattle.graph.specs.declared.object.Shape.TheVariants.{Region, Segment}
use Rattle.graph.specs.declared.template.Node.{Node}
use Rattle.graph.specs.declared.value.Target.TheVariants.{First, Last}
use Rattle.graph.specs.declared.value.Value.TheVariants.{Address}
use Rattle.graph.specs.declared.parts.KeyedObject.{KeyedObject}
use Rattle.graph.specs.Maps.{object_at, value_at}
use Rattle.graph.specs.Nodes.{is_region, links_in, own_node, node_in}
use Rattle.graph.specs.Meaning.{HasClass, HaveClasses, HoldsWord, HoldEdges, HoldsBack, IsLinked, AreNodes, first_of, last_or, last_of, end_word, word_at, HasShape, HasBlocksAs, Ends, ends_in, ends_of, no_ends, own_offset}
use Rattle.graph.specs.SegmentLaws.{IsNodeAt, HasNodes, SegmentsHaveNodes, SegmentsHaveAddresses}
use Rattle.graph.specs.WellFormed.{says_nothing, is_segment_storage}
use Rattle.graph.proofs.Found.{found-all}
use Rattle.graph.proofs.Tests.{and_left}

zero_at : (plane : List ℕ) (bytes : List Byte) (i : ℕ) → HaveClasses plane bytes → slice_get plane i ≡ Some 0 → slice_get bytes i ≡ Some (Num 0)
zero_at [] bytes i have is = absurd (none-some 0 is)
zero_at (class ∷ plane) [] i have is = absurd have
zero_at (class ∷ plane) (byte ∷ bytes) zero have is = by_byte byte (subst (λ (c : ℕ). HasClass c byte) (same_Some _ _ is) have.0)
  where
    by_byte : (byte : Byte) → HasClass 0 byte → Some byte ≡ Some (Num 0)
    by_byte (Num number) zero_is = ap (λ (n : ℕ). Some (Num n)) zero_is
    by_byte (Part block offset k) has = absurd has
zero_at (class ∷ plane) (byte ∷ bytes) (suc i) have is = zero_at plane bytes i have.1 is

number_at : (plane : List ℕ) (bytes : List Byte) (i : ℕ) → HaveClasses plane bytes → slice_get plane i ≡ Some 1 → (n : ℕ) × (slice_get bytes i ≡ Some (Num n))
number_at [] bytes i have is = absurd (none-some 1 is)
number_at (class ∷ plane) [] i have is = absurd have
number_at (class ∷ plane) (byte ∷ bytes) zero have is = by_byte byte (subst (λ (c : ℕ). HasClass c byte) (same_Some _ _ is) have.0)
  where
    by_byte : (byte : Byte) → HasClass 1 byte → (n : ℕ) × (Some byte ≡ Some (Num n))
    by_byte (Num number) has = (number, refl)
    by_byte (Part block offset k) has = absurd has
number_at (class ∷ plane) (byte ∷ bytes) (suc i) have is = number_at plane bytes i have.1 is

edge_at : (bytes : List Byte) (word : ℕ → Word) (edges : List HasValue) (i : ℕ) (edge : HasValue) → HoldEdges bytes word edges → slice_get edges i ≡ Some edge → HoldsWord bytes edge (word edge.value)
edge_at bytes word [] i edge hold is = absurd (none-some edge is)
edge_at bytes word (first ∷ rest) zero edge hold is = subst (λ (e : HasValue). HoldsWord bytes e (word e.value)) (same_Some first edge is) hold.0
edge_at bytes word (first ∷ rest) (suc i) edge hold is = edge_at bytes word rest i edge hold.1 is

first_at : (blocks : List ℕ) → first_of blocks ≡ slice_get blocks 0
first_at [] = refl
first_at (number ∷ rest) = refl

module _ (memory : List Block) (object : Object) (links : Links) (node : Node) (word : ℕ → Word) (own : ℕ → Option ℤ) (after : Word) where
  holds_back : (twofold : Bool) (bytes : List Byte) (at : ℕ) (backward : Word) → HoldsBack twofold bytes at backward → twofold ≡ true → take 8 (drop at bytes) ≡ word_bytes backward
  holds_back true bytes at backward holds is = holds
  holds_back false bytes at backward holds is = absurd (false≢true is)

  node_here : (before : Word) (number : ℕ) (rest : List ℕ) → IsLinked memory object links node (word_at word own number) (end_word (first_of rest) after links.head (pos links.head)) before number →
      IsNodeAt memory object links node (word_at word own) after before (number ∷ rest) 0 number
  node_here before number rest is = record {
    block = is.block;
    there = is.there;
    live = is.node.live;
    kind = is.node.kind;
    size = is.node.size;
    zeros = λ i class. zero_at node.plane is.block.bytes i is.node.classes class;
    numbers = λ i class. number_at node.plane is.block.bytes i is.node.classes class;
    edges = λ i edge stands. edge_at is.block.bytes (word_at word own number) node.edges i edge is.node.edges stands;
    next = λ following stands. is.next ∙ ap (λ (o : Option ℕ). word_bytes (end_word o after links.head (pos links.head))) (first_at rest ∙ stands);
    last = λ none. is.next ∙ ap (λ (o : Option ℕ). word_bytes (end_word o after links.head (pos links.head))) (first_at rest ∙ none);
    back = λ twofold previous number' place_is stands. absurd (omega arith);
    first = λ twofold place_is. holds_back links.twofold is.block.bytes links.prev before is.prev twofold;
  }

  node_later : (before : Word) (number : ℕ) (rest : List ℕ) (place found : ℕ) → IsNodeAt memory object links node (word_at word own) after (To number (pos links.back)) rest place found →
      IsNodeAt memory object links node (word_at word own) after before (number ∷ rest) (suc place) found
  node_later before number rest place found is = record {
    block = is.block;
    there = is.there;
    live = is.live;
    kind = is.kind;
    size = is.size;
    zeros = is.zeros;
    numbers = is.numbers;
    edges = is.edges;
    next = is.next;
    last = is.last;
    back = λ twofold previous number' place_is stands. by_previous twofold previous number' (let e = place_is in omega arith) stands;
    first = λ twofold place_is. absurd (omega arith);
  }
    where
      by_previous : IsTrue links.twofold → (previous number' : ℕ) → place ≡ previous → slice_get (number ∷ rest) previous ≡ Some number' → take 8 (drop links.prev is.block.bytes) ≡ word_bytes (To number' (pos links.back))
      by_previous twofold zero number' place_is stands = is.first twofold place_is ∙ ap (λ (n : ℕ). word_bytes (To n (pos links.back))) (same_Some number number' stands)
      by_previous twofold (suc previous) number' place_is stands = is.back twofold previous number' place_is stands

  nodes_at : (before : Word) (blocks : List ℕ) → AreNodes memory object links node word own after before blocks → (place number : ℕ) → slice_get blocks place ≡ Some number →
      IsNodeAt memory object links node (word_at word own) after before blocks place number
  nodes_at before [] are place number stands = absurd (none-some number stands)
  nodes_at before (first ∷ rest) are zero number stands = subst (λ (n : ℕ). IsNodeAt memory object links node (word_at word own) after before (first ∷ rest) 0 n) (same_Some first number stands) (node_here before first rest are.0)
  nodes_at before (first ∷ rest) are (suc place) number stands = node_later before first rest place number (nodes_at (To first (pos links.back)) rest are.1 place number stands)

pub segments_have_nodes : SegmentsHaveNodes
segments_have_nodes parts state given key object links well meets stands linked =
    by_shape object.shape refl linked (subst (λ (b : Bool). HasBlocksAs b state.memory object given.word (λ value. own_offset (value_at parts.values value)) (given.blocks key)) live (meets.objects key object stands))
  where
    live : object.live ≡ true
    live = by_region (is_region object.shape) refl (found-all (λ (entry : KeyedObject). entry.key) (λ entry. entry.object) (λ object. is_region object.shape || is_segment_storage object) parts.objects key object well.segments_are_allocated stands)
      where
        no_links : (shape : Shape) → is_region shape ≡ true → links_in shape ≡ None
        no_links Region region = refl
        no_links (Segment twofold head next prev back least next_value prev_value node) region = absurd (false≢true region)

        by_region : (b : Bool) → is_region object.shape ≡ b → (b || is_segment_storage object) ≡ true → object.live ≡ true
        by_region true is stored = absurd (none-some links (sym (no_links object.shape is) ∙ linked))
        by_region false is stored = and_left object.live (is_heap object.kind && says_nothing object.edges object.plane) stored

    by_shape : (shape : Shape) → object.shape ≡ shape → links_in shape ≡ Some links →
        HasShape object.shape state.memory object given.word (λ value. own_offset (value_at parts.values value)) (given.blocks key) → HasNodes parts state given key object links
    by_shape Region shape_is is has = absurd (none-some links is)
    by_shape (Segment twofold head next prev back least next_value prev_value node) shape_is is has =
        let segment = subst (λ (s : Shape). HasShape s state.memory object given.word (λ value. own_offset (value_at parts.values value)) (given.blocks key)) shape_is has in
        subst (λ (l : Links). HasNodes parts state given key object l) (same_Some _ _ is) (record {
          enough = segment.0;
          nodes = λ place number at.
              subst (λ (n : Node). IsNodeAt state.memory object (record { twofold = twofold; head = head; next = next; prev = prev; back = back; least = least; next_value = next_value; prev_value = prev_value }) n
              (word_at given.word (λ value. own_offset (value_at parts.values value))) (given.word next_value) (moved (given.word prev_value) (pos back -ℤ pos back)) (given.blocks key) place number)
              (sym (ap (λ (s : Shape). node_in s (own_node object)) shape_is))
              (nodes_at state.memory object (record { twofold = twofold; head = head; next = next; prev = prev; back = back; least = least; next_value = next_value; prev_value = prev_value }) node given.word
              (λ value. own_offset (value_at parts.values value)) (given.word next_value) (end_word None (given.word prev_value) back (pos back)) (given.blocks key) segment.1 place number at);
        })

-- Addresses.

first_some : (blocks : List ℕ) (number : ℕ) → slice_get blocks 0 ≡ Some number → first_of blocks ≡ Some number
first_some blocks number stands = first_at blocks ∙ stands

last_or_behind : (first : ℕ) (front : List ℕ) (number : ℕ) → last_or first (front ++ number ∷ []) ≡ number
last_or_behind first [] number = refl
last_or_behind first (next ∷ front) number = last_or_behind next front number

pub last_behind : (front : List ℕ) (number : ℕ) → last_of (front ++ number ∷ []) ≡ Some number
last_behind [] number = refl
last_behind (first ∷ front) number = ap Some (last_or_behind first front number)

-- the ends of a segment
record EndsAre (ends : Ends) (links : Links) (word : ℕ → Word) : Type 0 where
  head : ends.head ≡ links.head
  back : ends.back ≡ links.back
  after : ends.after ≡ word links.next_value
  before : ends.before ≡ word links.prev_value

ends_are : (shape : Shape) (links : Links) (word : ℕ → Word) → links_in shape ≡ Some links → EndsAre (ends_in shape word) links word
ends_are Region links word is = absurd (none-some links is)
ends_are (Segment twofold head next prev back least next_value prev_value node) links word is =
    subst (λ (l : Links). EndsAre (record { head = head; back = back; after = word next_value; before = word prev_value }) l word) (same_Some _ _ is)
    (record { head = refl; back = refl; after = refl; before = refl })

pub segments_have_addresses : SegmentsHaveAddresses
segments_have_addresses parts state given key object links meets stands linked = record {
  first = λ value offset number is block.
      meets.values value (Address key offset First) is
      ∙ ap (λ (o : Option ℕ). end_word o (ends_of (object_at parts.objects) given.word key).after (ends_of (object_at parts.objects) given.word key).head offset) (first_some (given.blocks key) number block);
  behind = λ value offset is none.
      meets.values value (Address key offset First) is
      ∙ ap (λ (blocks : List ℕ). end_word (first_of blocks) (ends_of (object_at parts.objects) given.word key).after (ends_of (object_at parts.objects) given.word key).head offset) none
      ∙ ap (λ (w : Word). moved w (offset -ℤ pos (ends_of (object_at parts.objects) given.word key).head)) are.after ∙ ap (λ (n : ℕ). moved (given.word links.next_value) (offset -ℤ pos n)) are.head;
  last = λ value offset front number is blocks.
      meets.values value (Address key offset Last) is
      ∙ ap (λ (bs : List ℕ). end_word (last_of bs) (ends_of (object_at parts.objects) given.word key).before (ends_of (object_at parts.objects) given.word key).back offset) blocks
      ∙ ap (λ (o : Option ℕ). end_word o (ends_of (object_at parts.objects) given.word key).before (ends_of (object_at parts.objects) given.word key).back offset) (last_behind front number);
  before = λ value offset is none.
      meets.values value (Address key offset Last) is
      ∙ ap (λ (blocks : List ℕ). end_word (last_of blocks) (ends_of (object_at parts.objects) given.word key).before (ends_of (object_at parts.objects) given.word key).back offset) none
      ∙ ap (λ (w : Word). moved w (offset -ℤ pos (ends_of (object_at parts.objects) given.word key).back)) are.before ∙ ap (λ (n : ℕ). moved (given.word links.prev_value) (offset -ℤ pos n)) are.back;
}
  where
    are : EndsAre (ends_of (object_at parts.objects) given.word key) links given.word
    are = subst (λ (o : Option Object). EndsAre (option_map_or (λ object. ends_in object.shape given.word) o no_ends) links given.word) (sym stands) (ends_are object.shape links given.word linked)
