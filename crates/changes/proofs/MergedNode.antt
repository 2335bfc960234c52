-- What is said of bytes, and of objects, where one value stands in place of another: the same, with the words that go with it.
use Rattle.std.proofs.Common.{◌≡◌, ℕ, zero, suc, ◌+◌, ◌-◌, ◌≤◌, Bool, true, false, not, List, [], ◌∷◌, ◌++◌, map, length, take, drop, replicate, nat_eq, nat_le, ℤ, pos, Option, None, refl, sym, ◌∙◌, ap, subst, eqb-true, eq-eqb, leb-true, ◌⊎◌, inl, inr, arith}
use Rattle.std.specs.Prelude.{if◌then◌else◌}
use Rattle.std.specs.List.{filter, list_all}
use Rattle.std.proofs.lemmas.List.{length-replicate}
use Rattle.planes.specs.Classes.{filled}
use Rattle.bytes_core.specs.declared.block.Block.{Block}
use Rattle.bytes_core.specs.declared.block.BlockKind.{BlockKind}
use Rattle.bytes_core.specs.declared.byte.Byte.{Byte}
use Rattle.bytes_core.specs.declared.byte.Byte.TheVariants.{Num, Part}
use Rattle.bytes_core.specs.declared.word.Word.{Word}
use Rattle.bytes_core.specs.declared.word.Word.TheVariants.{Plain, To}
use Rattle.bytes_core.specs.Value.{word_bytes}
use Rattle.graph.specs.declared.edges.HasValue.{HasValue}
use Rattle.graph.specs.declared.object.Links.{Links}
use Rattle.graph.specs.declared.object.Object.{Object}
use Rattle.graph.specs.declared.object.Shape.{Shape}
use Rattle.graph.specs.declared.object.Shape.TheVariants.{Region, Segment}
use Rattle.graph.specs.declared.template.Node.{Node}
use Rattle.graph.specs.Closed.{OnEnds}
use Rattle.graph.specs.Nodes.{own_node, node_in, node_of}
use Rattle.graph.specs.WellFormed.{lies_in}
use Rattle.graph.specs.Meaning.{HasClass, HaveClasses, HoldsWord, HoldEdges, IsNode, AreNodes, HasShape, HasBlocksAs, HasBlocks, end_word, own_word, word_at}
use Rattle.graph.proofs.Tests.{and_left, and_right}
use Rattle.changes.specs.Merging.{merged_key, merged_edge, cleared, merged_node, merged_shape, merged_object}
use Rattle.changes.specs.Ranges.{spliced}
use Rattle.changes.proofs.Node.{HaveClasses-range, HaveClasses-spliced, filled_spliced, take_replicate}
use Rattle.changes.proofs.NodeBack.{zero_has, zeros_are, range_stands}
use Rattle.changes.proofs.Splice.{length-spliced, spliced-own}

-- Keys.

pub merged_here : (kept gone : ℕ) → merged_key kept gone gone ≡ kept
merged_here kept gone = ap (λ (b : Bool). if b then kept else gone) (eq-eqb gone gone refl)

pub merged_kept : (kept gone : ℕ) → merged_key kept gone kept ≡ kept
merged_kept kept gone = by_key (nat_eq kept gone)
  where
    by_key : (b : Bool) → (if b then kept else kept) ≡ kept
    by_key true = refl
    by_key false = refl

pub merged_other : (kept gone key : ℕ) → nat_eq key gone ≡ false → merged_key kept gone key ≡ key
merged_other kept gone key differ = ap (λ (b : Bool). if b then kept else key) differ

-- Classes.

pub zeros_have : (n : ℕ) → HaveClasses (replicate n 0) (replicate n (Num 0))
zeros_have zero = tt
zeros_have (suc n) = (refl, zeros_have n)

pub null_bytes : (size : ℕ) → size ≤ 8 → take size (word_bytes (Plain 0)) ≡ replicate size (Num 0)
null_bytes size small = ap (λ (n : ℕ). take size (replicate n (Num 0))) (let e : 8 ≡ size + (8 - size) = omega arith in e) ∙ take_replicate size (8 - size) (Num 0)

-- zeros in a range have class 0 there
filled_has : (plane : List ℕ) (bytes : List Byte) (at size : ℕ) → at + size ≤ length bytes → take size (drop at bytes) ≡ replicate size (Num 0) → HaveClasses plane bytes → HaveClasses (filled plane at size 0) bytes
filled_has plane bytes at size room zeros has =
    subst (λ (classes : List ℕ). HaveClasses classes bytes) (sym (filled_spliced plane at size 0))
    (subst (HaveClasses (spliced plane at (replicate size 0)))
    (spliced-own bytes at (replicate size (Num 0)) (subst (λ (n : ℕ). at + n ≤ length bytes) (sym (length-replicate size (Num 0))) room) (Num 0) (ap length own) own)
    (HaveClasses-spliced plane bytes at (replicate size 0) (replicate size (Num 0)) has (zeros_have size)))
  where
    own : replicate size (Num 0) ≡ take (length (replicate size (Num 0))) (drop at bytes)
    own = sym zeros ∙ ap (λ (n : ℕ). take n (drop at bytes)) (sym (length-replicate size (Num 0)))

-- each class is the other one, or 0
abbrev Lower : List ℕ → List ℕ → Type 0
Lower [] [] = Unit {0}
Lower [] (class ∷ rest) = ⊥
Lower (class ∷ rest) [] = ⊥
Lower (class ∷ rest) (other ∷ others) = ((class ≡ other) ⊎ (class ≡ 0)) × Lower rest others

zero_weaker : (class : ℕ) (byte : Byte) → HasClass 0 byte → HasClass class byte
zero_weaker class (Num number) has = subst (λ (n : ℕ). HasClass class (Num n)) (sym has) (zero_has class)
zero_weaker class (Part block offset k) has = absurd has

lower_has : (one other : List ℕ) (bytes : List Byte) → Lower one other → HaveClasses one bytes → HaveClasses other bytes
lower_has [] [] bytes lower has = has
lower_has [] (class ∷ rest) bytes lower has = absurd lower
lower_has (class ∷ rest) [] bytes lower has = absurd lower
lower_has (class ∷ rest) (other ∷ others) [] lower has = absurd has
lower_has (class ∷ rest) (other ∷ others) (byte ∷ bytes) lower has = (by_class lower.0, lower_has rest others bytes lower.1 has.1)
  where
    by_class : (class ≡ other) ⊎ (class ≡ 0) → HasClass other byte
    by_class (inl same) = subst (λ (c : ℕ). HasClass c byte) same has.0
    by_class (inr none) = zero_weaker other byte (subst (λ (c : ℕ). HasClass c byte) none has.0)

lower_own : (plane : List ℕ) → Lower plane plane
lower_own [] = tt
lower_own (class ∷ rest) = (inl refl, lower_own rest)

lower_front : (size : ℕ) (plane : List ℕ) → size ≤ length plane → Lower (replicate size 0 ++ drop size plane) plane
lower_front zero plane room = lower_own plane
lower_front (suc size) [] room = absurd (omega arith)
lower_front (suc size) (class ∷ rest) room = (inr refl, lower_front size rest (omega arith))

lower_range : (at size : ℕ) (plane : List ℕ) → at + size ≤ length plane → Lower (take at plane ++ (replicate size 0 ++ drop (at + size) plane)) plane
lower_range zero size plane room = subst (λ (n : ℕ). Lower (replicate size 0 ++ drop n plane) plane) (let e : size ≡ 0 + size = omega arith in e) (lower_front size plane (omega arith))
lower_range (suc at) size [] room = absurd (omega arith)
lower_range (suc at) size (class ∷ rest) room =
    subst (λ (n : ℕ). Lower (class ∷ (take at rest ++ (replicate size 0 ++ drop n (class ∷ rest)))) (class ∷ rest)) (let e : suc (at + size) ≡ suc at + size = omega arith in e)
    (inl refl, lower_range at size rest (omega arith))

lower_filled : (plane : List ℕ) (at size : ℕ) → at + size ≤ length plane → Lower (filled plane at size 0) plane
lower_filled plane at size room =
    subst (λ (classes : List ℕ). Lower classes plane)
    (ap (λ (n : ℕ). take at plane ++ (replicate size 0 ++ drop (at + n) plane)) (sym (length-replicate size 0)) ∙ sym (filled_spliced plane at size 0))
    (lower_range at size plane room)

length-filled : (plane : List ℕ) (at size : ℕ) → at + size ≤ length plane → length (filled plane at size 0) ≡ length plane
length-filled plane at size room =
    ap length (filled_spliced plane at size 0) ∙ length-spliced plane at (replicate size 0) (subst (λ (n : ℕ). at + n ≤ length plane) (sym (length-replicate size 0)) room) 0

module _ (kept gone : ℕ) (word word' : ℕ → Word) (eq : (key : ℕ) → word' key ≡ word (merged_key kept gone key)) where
  other_word : (key : ℕ) → nat_eq key gone ≡ false → word' key ≡ word key
  other_word key differ = eq key ∙ ap word (merged_other kept gone key differ)

  gone_word : (key : ℕ) → nat_eq key gone ≡ true → word' key ≡ word kept
  gone_word key same = ap word' (eqb-true _ _ same) ∙ eq gone ∙ ap word (merged_here kept gone)

  -- Edges that hold the other value.

  map_on : (bytes : List Byte) (edges : List HasValue) → HoldEdges bytes word' edges → HoldEdges bytes word (map (merged_edge kept gone) edges)
  map_on bytes [] holds = tt
  map_on bytes (edge ∷ rest) holds = (holds.0 ∙ ap (λ (w : Word). take edge.size (word_bytes w)) (eq edge.value), map_on bytes rest holds.1)

  map_back : (bytes : List Byte) (edges : List HasValue) → HoldEdges bytes word (map (merged_edge kept gone) edges) → HoldEdges bytes word' edges
  map_back bytes [] holds = tt
  map_back bytes (edge ∷ rest) holds = (holds.0 ∙ sym (ap (λ (w : Word). take edge.size (word_bytes w)) (eq edge.value)), map_back bytes rest holds.1)

  -- Edges that go, since their value is 0.

  filter_on : (bytes : List Byte) (edges : List HasValue) → HoldEdges bytes word' edges → HoldEdges bytes word (filter (λ edge. not (nat_eq edge.value gone)) edges)
  filter_on bytes [] holds = tt
  filter_on bytes (edge ∷ rest) holds = by_key (nat_eq edge.value gone) refl (filter_on bytes rest holds.1)
    where
      by_key : (b : Bool) → nat_eq edge.value gone ≡ b → HoldEdges bytes word (filter (λ edge. not (nat_eq edge.value gone)) rest) →
          HoldEdges bytes word (if not b then edge ∷ filter (λ edge. not (nat_eq edge.value gone)) rest else filter (λ edge. not (nat_eq edge.value gone)) rest)
      by_key true same later = later
      by_key false differ later = (holds.0 ∙ ap (λ (w : Word). take edge.size (word_bytes w)) (other_word edge.value differ), later)

  module _ (null : word kept ≡ Plain 0) where
    gone_bytes : (edge : HasValue) → nat_eq edge.value gone ≡ true → edge.size ≤ 8 → take edge.size (word_bytes (word' edge.value)) ≡ replicate edge.size (Num 0)
    gone_bytes edge same small = ap (λ (w : Word). take edge.size (word_bytes w)) (gone_word edge.value same ∙ null) ∙ null_bytes edge.size small

    cleared_on : (bytes : List Byte) (edges : List HasValue) (plane : List ℕ) → list_all (lies_in (length bytes)) edges ≡ true → list_all (λ edge. nat_le edge.size 8) edges ≡ true →
        HoldEdges bytes word' edges → HaveClasses plane bytes → HaveClasses (cleared gone edges plane) bytes
    cleared_on bytes [] plane inside small holds has = has
    cleared_on bytes (edge ∷ rest) plane inside small holds has =
        by_key (nat_eq edge.value gone) refl
        (λ plane has. cleared_on bytes rest plane (and_right (lies_in (length bytes) edge) (list_all (lies_in (length bytes)) rest) inside) (and_right (nat_le edge.size 8) (list_all (λ edge. nat_le edge.size 8) rest) small) holds.1 has)
      where
        by_key : (b : Bool) → nat_eq edge.value gone ≡ b → ((plane : List ℕ) → HaveClasses plane bytes → HaveClasses (cleared gone rest plane) bytes) →
            HaveClasses (cleared gone rest (if b then filled plane edge.at edge.size 0 else plane)) bytes
        by_key true same later =
            later (filled plane edge.at edge.size 0)
            (filled_has plane bytes edge.at edge.size (leb-true _ _ (and_left (lies_in (length bytes) edge) (list_all (lies_in (length bytes)) rest) inside))
            (holds.0 ∙ gone_bytes edge same (leb-true _ _ (and_left (nat_le edge.size 8) (list_all (λ edge. nat_le edge.size 8) rest) small))) has)
        by_key false differ later = later plane has

    cleared_back : (bytes : List Byte) (edges : List HasValue) (plane : List ℕ) (size : ℕ) → length plane ≡ size → list_all (lies_in size) edges ≡ true → HaveClasses (cleared gone edges plane) bytes → HaveClasses plane bytes
    cleared_back bytes [] plane size long inside has = has
    cleared_back bytes (edge ∷ rest) plane size long inside has =
        by_key (nat_eq edge.value gone) has (λ plane long has. cleared_back bytes rest plane size long (and_right (lies_in size edge) (list_all (lies_in size) rest) inside) has)
      where
        by_key : (b : Bool) → HaveClasses (cleared gone rest (if b then filled plane edge.at edge.size 0 else plane)) bytes →
            ((plane : List ℕ) → length plane ≡ size → HaveClasses (cleared gone rest plane) bytes → HaveClasses plane bytes) → HaveClasses plane bytes
        by_key true has later =
            let room : edge.at + edge.size ≤ length plane = subst (λ (n : ℕ). edge.at + edge.size ≤ n) (sym long) (leb-true _ _ (and_left (lies_in size edge) (list_all (lies_in size) rest) inside)) in
            lower_has (filled plane edge.at edge.size 0) plane bytes (lower_filled plane edge.at edge.size room)
            (later (filled plane edge.at edge.size 0) (length-filled plane edge.at edge.size room ∙ long) has)
        by_key false has later = later plane long has

    filter_back : (bytes : List Byte) (edges : List HasValue) (plane : List ℕ) (size : ℕ) → length plane ≡ size → list_all (lies_in size) edges ≡ true → list_all (λ edge. nat_le edge.size 8) edges ≡ true →
        HaveClasses (cleared gone edges plane) bytes → HoldEdges bytes word (filter (λ edge. not (nat_eq edge.value gone)) edges) → HoldEdges bytes word' edges
    filter_back bytes [] plane size long inside small has holds = tt
    filter_back bytes (edge ∷ rest) plane size long inside small has holds =
        by_key (nat_eq edge.value gone) refl has holds
        (λ plane long has holds. filter_back bytes rest plane size long inside_rest (and_right (nat_le edge.size 8) (list_all (λ edge. nat_le edge.size 8) rest) small) has holds)
      where
        inside_rest : list_all (lies_in size) rest ≡ true
        inside_rest = and_right (lies_in size edge) (list_all (lies_in size) rest) inside

        by_key : (b : Bool) → nat_eq edge.value gone ≡ b → HaveClasses (cleared gone rest (if b then filled plane edge.at edge.size 0 else plane)) bytes →
            HoldEdges bytes word (if not b then edge ∷ filter (λ edge. not (nat_eq edge.value gone)) rest else filter (λ edge. not (nat_eq edge.value gone)) rest) →
            ((plane : List ℕ) → length plane ≡ size → HaveClasses (cleared gone rest plane) bytes → HoldEdges bytes word (filter (λ edge. not (nat_eq edge.value gone)) rest) → HoldEdges bytes word' rest) →
            HoldsWord bytes edge (word' edge.value) × HoldEdges bytes word' rest
        by_key false differ has holds later = (holds.0 ∙ sym (ap (λ (w : Word). take edge.size (word_bytes w)) (other_word edge.value differ)), later plane long has holds.1)
        by_key true same has holds later = (
          zeros_are (take edge.size (drop edge.at bytes)) edge.size
              (subst (λ (classes : List ℕ). HaveClasses classes (take edge.size (drop edge.at bytes)))
              (ap (λ (classes : List ℕ). take edge.size (drop edge.at classes)) (filled_spliced plane edge.at edge.size 0) ∙ range_stands plane edge.at edge.size 0 room)
              (HaveClasses-range edge.at edge.size (filled plane edge.at edge.size 0) bytes (cleared_back bytes rest (filled plane edge.at edge.size 0) size long_filled inside_rest has)))
              ∙ sym (gone_bytes edge same (leb-true _ _ (and_left (nat_le edge.size 8) (list_all (λ edge. nat_le edge.size 8) rest) small))),
          later (filled plane edge.at edge.size 0) long_filled has holds,
        )
          where
            room : edge.at + edge.size ≤ length plane
            room = subst (λ (n : ℕ). edge.at + edge.size ≤ n) (sym long) (leb-true _ _ (and_left (lies_in size edge) (list_all (lies_in size) rest) inside))

            long_filled : length (filled plane edge.at edge.size 0) ≡ size
            long_filled = length-filled plane edge.at edge.size room ∙ long

  -- Nodes.

  pub node_on : (clears : Bool) → (clears ≡ true → word kept ≡ Plain 0) → (count : ℕ) (storage : BlockKind) (node : Node) (block : Block) → list_all (lies_in count) node.edges ≡ true → list_all (λ edge. nat_le edge.size 8) node.edges ≡ true →
      IsNode count storage node word' block → IsNode count storage (merged_node clears kept gone node) word block
  node_on false null count storage node block inside small is = record { live = is.live; kind = is.kind; size = is.size; edges = map_on block.bytes node.edges is.edges; classes = is.classes }
  node_on true null count storage node block inside small is = record {
    live = is.live;
    kind = is.kind;
    size = is.size;
    edges = filter_on block.bytes node.edges is.edges;
    classes = cleared_on (null refl) block.bytes node.edges node.plane (subst (λ (n : ℕ). list_all (lies_in n) node.edges ≡ true) (sym is.size) inside) small is.edges is.classes;
  }

  pub node_back : (clears : Bool) → (clears ≡ true → word kept ≡ Plain 0) → (count : ℕ) (storage : BlockKind) (node : Node) (block : Block) → length node.plane ≡ count → list_all (lies_in count) node.edges ≡ true →
      list_all (λ edge. nat_le edge.size 8) node.edges ≡ true → IsNode count storage (merged_node clears kept gone node) word block → IsNode count storage node word' block
  node_back false null count storage node block long inside small is = record { live = is.live; kind = is.kind; size = is.size; edges = map_back block.bytes node.edges is.edges; classes = is.classes }
  node_back true null count storage node block long inside small is = record {
    live = is.live;
    kind = is.kind;
    size = is.size;
    edges = filter_back (null refl) block.bytes node.edges node.plane count long inside small is.classes is.edges;
    classes = cleared_back (null refl) block.bytes node.edges node.plane count long inside is.classes;
  }

-- Objects.

-- what is asked of an object's edges and plane
pub record IsMergeFit (object : Object) : Type 0 where
  pub inside : list_all (lies_in object.size) (node_of object).edges ≡ true
  pub small : list_all (λ edge. nat_le edge.size 8) (node_of object).edges ≡ true
  pub long : object.live ≡ true → length (node_of object).plane ≡ object.size

module _ (clears : Bool) (kept gone : ℕ) (word word' : ℕ → Word) (eq : (key : ℕ) → word' key ≡ word (merged_key kept gone key)) (null : clears ≡ true → word kept ≡ Plain 0)
    (own : ℕ → Option ℤ) (own_same : (key : ℕ) → own (merged_key kept gone key) ≡ own key) (own_none : own kept ≡ None) where
  -- the words at a node
  eq_at : (number key : ℕ) → word_at word' own number key ≡ word_at word own number (merged_key kept gone key)
  eq_at number key = ap (λ (w : Word). own_word (own key) w number) (eq key) ∙ ap (λ (o : Option ℤ). own_word o (word (merged_key kept gone key)) number) (sym (own_same key))

  null_at : (number : ℕ) → clears ≡ true → word_at word own number kept ≡ Plain 0
  null_at number is = ap (λ (o : Option ℤ). own_word o (word kept) number) own_none ∙ null is

  module _ (memory : List Block) (object : Object) where
    nodes_on : (links : Links) (node : Node) (after before : Word) (blocks : List ℕ) → list_all (lies_in object.size) node.edges ≡ true → list_all (λ edge. nat_le edge.size 8) node.edges ≡ true →
        AreNodes memory object links node word' own after before blocks → AreNodes memory (merged_object clears kept gone object) links (merged_node clears kept gone node) word own after before blocks
    nodes_on links node after before [] inside small are = tt
    nodes_on links node after before (number ∷ rest) inside small are = (
      record {
        block = are.0.block;
        there = are.0.there;
        node = node_on kept gone (word_at word own number) (word_at word' own number) (eq_at number) clears (null_at number) object.size object.kind node are.0.block inside small are.0.node;
        next = are.0.next;
        prev = are.0.prev;
      },
      nodes_on links node after (To number (pos links.back)) rest inside small are.1,
    )

    nodes_back : (links : Links) (node : Node) (after before : Word) (blocks : List ℕ) → length node.plane ≡ object.size → list_all (lies_in object.size) node.edges ≡ true → list_all (λ edge. nat_le edge.size 8) node.edges ≡ true →
        AreNodes memory (merged_object clears kept gone object) links (merged_node clears kept gone node) word own after before blocks → AreNodes memory object links node word' own after before blocks
    nodes_back links node after before [] long inside small are = tt
    nodes_back links node after before (number ∷ rest) long inside small are = (
      record {
        block = are.0.block;
        there = are.0.there;
        node = node_back kept gone (word_at word own number) (word_at word' own number) (eq_at number) clears (null_at number) object.size object.kind node are.0.block long inside small are.0.node;
        next = are.0.next;
        prev = are.0.prev;
      },
      nodes_back links node after (To number (pos links.back)) rest long inside small are.1,
    )

    -- the words beyond the ends of a segment stay
    abbrev pub EndsStay : Shape → Type 0
    EndsStay shape = OnEnds (λ key. word' key ≡ word key) shape

    shape_on : (shape : Shape) (blocks : List ℕ) → EndsStay shape → list_all (lies_in object.size) (node_in shape (own_node object)).edges ≡ true → list_all (λ edge. nat_le edge.size 8) (node_in shape (own_node object)).edges ≡ true →
        HasShape shape memory object word' own blocks → HasShape (merged_shape clears kept gone shape) memory (merged_object clears kept gone object) word own blocks
    shape_on Region blocks ends inside small has = (
      has.0,
      has.1,
      record { block = has.2.block; there = has.2.there; node = node_on kept gone word word' eq clears null object.size object.kind (own_node object) has.2.block inside small has.2.node },
    )
    shape_on (Segment twofold head next prev back least next_value prev_value node) blocks ends inside small has = (
      has.0,
      nodes_on links node (word next_value) (end_word None (word prev_value) back (pos back)) blocks inside small
          (subst (λ (w : Word). AreNodes memory object links node word' own w (end_word None (word prev_value) back (pos back)) blocks) ends.0
          (subst (λ (w : Word). AreNodes memory object links node word' own (word' next_value) (end_word None w back (pos back)) blocks) ends.1 has.1)),
    )
      where
        links : Links
        links = record { twofold = twofold; head = head; next = next; prev = prev; back = back; least = least; next_value = next_value; prev_value = prev_value }

    shape_back : (shape : Shape) (blocks : List ℕ) → EndsStay shape → length (node_in shape (own_node object)).plane ≡ object.size → list_all (lies_in object.size) (node_in shape (own_node object)).edges ≡ true →
        list_all (λ edge. nat_le edge.size 8) (node_in shape (own_node object)).edges ≡ true →
        HasShape (merged_shape clears kept gone shape) memory (merged_object clears kept gone object) word own blocks → HasShape shape memory object word' own blocks
    shape_back Region blocks ends long inside small has = (
      has.0,
      has.1,
      record { block = has.2.block; there = has.2.there; node = node_back kept gone word word' eq clears null object.size object.kind (own_node object) has.2.block long inside small has.2.node },
    )
    shape_back (Segment twofold head next prev back least next_value prev_value node) blocks ends long inside small has = (
      has.0,
      subst (λ (w : Word). AreNodes memory object links node word' own w (end_word None (word' prev_value) back (pos back)) blocks) (sym ends.0)
          (subst (λ (w : Word). AreNodes memory object links node word' own (word next_value) (end_word None w back (pos back)) blocks) (sym ends.1)
          (nodes_back links node (word next_value) (end_word None (word prev_value) back (pos back)) blocks long inside small has.1)),
    )
      where
        links : Links
        links = record { twofold = twofold; head = head; next = next; prev = prev; back = back; least = least; next_value = next_value; prev_value = prev_value }

    pub blocks_on : (blocks : List ℕ) → EndsStay object.shape → IsMergeFit object → HasBlocks memory object word' own blocks → HasBlocks memory (merged_object clears kept gone object) word own blocks
    blocks_on blocks ends fit = by_life object.live
      where
        by_life : (b : Bool) → HasBlocksAs b memory object word' own blocks → HasBlocksAs b memory (merged_object clears kept gone object) word own blocks
        by_life true has = shape_on object.shape blocks ends fit.inside fit.small has
        by_life false has = has

    pub blocks_back : (blocks : List ℕ) → EndsStay object.shape → IsMergeFit object → HasBlocks memory (merged_object clears kept gone object) word own blocks → HasBlocks memory object word' own blocks
    blocks_back blocks ends fit = by_life object.live refl
      where
        by_life : (b : Bool) → object.live ≡ b → HasBlocksAs b memory (merged_object clears kept gone object) word own blocks → HasBlocksAs b memory object word' own blocks
        by_life true live has = shape_back object.shape blocks ends (fit.long live) fit.inside fit.small has
        by_life false dead has = has
