-- What is said of bytes, and of objects, where values become others: the same of the same words.
use Rattle.std.proofs.Common.{◌≡◌, ℕ, ◌+◌, ◌≤◌, Bool, true, false, not, List, [], ◌∷◌, length, take, drop, replicate, min, ℤ, pos, Option, None, Some, refl, sym, ◌∙◌, ap, subst, eqb-true, leb-true, length-take, length-drop, arith}
use Rattle.std.specs.Prelude.{if◌then◌else◌}
use Rattle.std.specs.List.{list_all}
use Rattle.std.proofs.lemmas.Bool.{false≢true}
use Rattle.planes.specs.Classes.{filled}
use Rattle.bytes_core.specs.declared.block.Block.{Block}
use Rattle.bytes_core.specs.declared.block.BlockKind.{BlockKind}
use Rattle.bytes_core.specs.declared.byte.Byte.{Byte}
use Rattle.bytes_core.specs.declared.byte.Byte.TheVariants.{Num}
use Rattle.bytes_core.specs.declared.word.Word.{Word}
use Rattle.bytes_core.specs.declared.word.Word.TheVariants.{Plain, To}
use Rattle.bytes_core.specs.Value.{word_bytes}
use Rattle.graph.specs.declared.edges.HasValue.{HasValue}
use Rattle.graph.specs.declared.object.Links.{Links}
use Rattle.graph.specs.declared.object.Object.{Object}
use Rattle.graph.specs.declared.object.Shape.{Shape}
use Rattle.graph.specs.declared.object.Shape.TheVariants.{Region, Segment}
use Rattle.graph.specs.declared.template.Node.{Node}
use Rattle.graph.specs.declared.value.Value.{Value}
use Rattle.graph.specs.declared.value.Value.TheVariants.{Const, Number, Any, Address}
use Rattle.graph.specs.Nodes.{own_node, node_in, node_of}
use Rattle.graph.specs.Sizes.{is_zero, value_class}
use Rattle.graph.specs.WellFormed.{lies_in, are_in_order}
use Rattle.graph.specs.Meaning.{HaveClasses, HoldEdges, IsNode, AreNodes, HasShape, HasBlocksAs, HasBlocks, Ends, HasWord, own_offset, own_word, word_at, end_word}
use Rattle.graph.proofs.Tests.{and_left, and_right}
use Rattle.changes.specs.Ranges.{spliced, class_for}
use Rattle.changes.proofs.MergedNode.{null_bytes}
use Rattle.changes.proofs.Node.{HaveClasses-range, HaveClasses-spliced, filled_spliced, low_has, low_long}
use Rattle.changes.proofs.NodeBack.{zeros_are}
use Rattle.changes.proofs.Splice.{spliced-own}
use Rattle.materialise.specs.Dropped.{edges_now, plane_now, node_now, shape_now, object_now}
use Rattle.materialise.proofs.Planes.{AllEdges, AreNoLower, plane_had, plane_under}

-- a word that an edge may hold: its bytes have the class of what the edge's value becomes, and it is 0 where that is the constant 0
pub record Fits (now : ℕ → Value) (word : ℕ → Word) (edge : HasValue) : Type 0 where
  pub classes : HaveClasses (replicate edge.size (class_for (now edge.value))) (take edge.size (word_bytes (word edge.value)))
  pub zero : is_zero (now edge.value) ≡ true → word edge.value ≡ Plain 0
  pub small : edge.size ≤ 8

any_has : (bytes : List Byte) → HaveClasses (replicate (length bytes) 2) bytes
any_has [] = tt
any_has (byte ∷ rest) = (tt, any_has rest)

-- the word of a value at a node
pub value_fits : (count : ℕ) (blocks : ℕ → List ℕ) (ends : ℕ → Ends) (value : Value) (word : Word) (number size : ℕ) → size ≤ 8 → HasWord count blocks ends value word →
    HaveClasses (replicate size (class_for value)) (take size (word_bytes (own_word (own_offset (Some value)) word number))) × (is_zero value ≡ true → own_word (own_offset (Some value)) word number ≡ Plain 0)
value_fits count blocks ends (Const constant own) word number size small has = (low_has count blocks ends size (Const constant own) word small has, λ is. has ∙ ap Plain (eqb-true _ _ is))
value_fits count blocks ends (Number own) word number size small has = (low_has count blocks ends size (Number own) word small has, λ is. absurd (false≢true is))
value_fits count blocks ends Any word number size small has = (low_has count blocks ends size Any word small has, λ is. absurd (false≢true is))
value_fits count blocks ends (Address object offset target) word number size small has = (
  subst (λ (n : ℕ). HaveClasses (replicate n 2) (take size (word_bytes (own_word (own_offset (Some (Address object offset target))) word number)))) (low_long size (own_word (own_offset (Some (Address object offset target))) word number) small)
      (any_has (take size (word_bytes (own_word (own_offset (Some (Address object offset target))) word number)))),
  λ is. absurd (false≢true is),
)

-- so it is where it is no node's own
pub plain_fits : (count : ℕ) (blocks : ℕ → List ℕ) (ends : ℕ → Ends) (value : Value) (word : Word) (size : ℕ) → size ≤ 8 → HasWord count blocks ends value word →
    HaveClasses (replicate size (class_for value)) (take size (word_bytes word)) × (is_zero value ≡ true → word ≡ Plain 0)
plain_fits count blocks ends (Const constant own) word size small has = (low_has count blocks ends size (Const constant own) word small has, λ is. has ∙ ap Plain (eqb-true _ _ is))
plain_fits count blocks ends (Number own) word size small has = (low_has count blocks ends size (Number own) word small has, λ is. absurd (false≢true is))
plain_fits count blocks ends Any word size small has = (low_has count blocks ends size Any word small has, λ is. absurd (false≢true is))
plain_fits count blocks ends (Address object offset target) word size small has = (low_has count blocks ends size (Address object offset target) word small has, λ is. absurd (false≢true is))

-- Bytes.

own_again : {A : Type 0} (items : List A) (at size : ℕ) (d : A) → at + size ≤ length items → spliced items at (take size (drop at items)) ≡ items
own_again items at size d room =
    let long : length (take size (drop at items)) ≡ size = length-take size (drop at items) ∙ ap (min size) (length-drop at items) ∙ omega arith in
    let own : take size (drop at items) ≡ take (length (take size (drop at items))) (drop at items) = ap (λ (n : ℕ). take n (drop at items)) (sym long) in
    spliced-own items at (take size (drop at items)) (omega arith) d (ap length own) own

pub filled_has : (plane : List ℕ) (bytes : List Byte) (at size class : ℕ) → at + size ≤ length bytes → HaveClasses (replicate size class) (take size (drop at bytes)) → HaveClasses plane bytes → HaveClasses (filled plane at size class) bytes
filled_has plane bytes at size class room classes has =
    subst (λ (classes : List ℕ). HaveClasses classes bytes) (sym (filled_spliced plane at size class))
    (subst (λ (bs : List Byte). HaveClasses (spliced plane at (replicate size class)) bs) (own_again bytes at size (Num 0) room)
    (HaveClasses-spliced plane bytes at (replicate size class) (take size (drop at bytes)) has classes))

module _ (now : ℕ → Value) where
  module _ (word : ℕ → Word) (bytes : List Byte) where
    classes_on : (edges : List HasValue) (plane : List ℕ) → list_all (lies_in (length bytes)) edges ≡ true → AllEdges (Fits now word) edges → HoldEdges bytes word edges → HaveClasses plane bytes → HaveClasses (plane_now now edges plane) bytes
    classes_on [] plane inside fits holds has = has
    classes_on (edge ∷ rest) plane inside fits holds has =
        classes_on rest (filled plane edge.at edge.size (class_for (now edge.value))) (and_right (lies_in (length bytes) edge) (list_all (lies_in (length bytes)) rest) inside) fits.1 holds.1
        (filled_has plane bytes edge.at edge.size (class_for (now edge.value)) (leb-true _ _ (and_left (lies_in (length bytes) edge) (list_all (lies_in (length bytes)) rest) inside))
        (subst (λ (bs : List Byte). HaveClasses (replicate edge.size (class_for (now edge.value))) bs) (sym holds.0) fits.0.classes) has)

    edges_on : (edges : List HasValue) → HoldEdges bytes word edges → HoldEdges bytes word (edges_now now edges)
    edges_on [] holds = tt
    edges_on (edge ∷ rest) holds = by_zero (is_zero (now edge.value)) (edges_on rest holds.1)
      where
        by_zero : (b : Bool) → HoldEdges bytes word (edges_now now rest) → HoldEdges bytes word (if not b then edge ∷ edges_now now rest else edges_now now rest)
        by_zero true later = later
        by_zero false later = (holds.0, later)

    -- an edge that went held the word of 0
    edges_back : (edges : List HasValue) (plane : List ℕ) → HaveClasses plane bytes → AllEdges (λ edge. take edge.size (drop edge.at plane) ≡ replicate edge.size (class_for (now edge.value))) edges → AllEdges (Fits now word) edges →
        HoldEdges bytes word (edges_now now edges) → HoldEdges bytes word edges
    edges_back [] plane has under fits holds = tt
    edges_back (edge ∷ rest) plane has under fits holds = by_zero (is_zero (now edge.value)) refl holds (λ holds. edges_back rest plane has under.1 fits.1 holds)
      where
        by_zero : (b : Bool) → is_zero (now edge.value) ≡ b → HoldEdges bytes word (if not b then edge ∷ edges_now now rest else edges_now now rest) → (HoldEdges bytes word (edges_now now rest) → HoldEdges bytes word rest) → HoldEdges bytes word (edge ∷ rest)
        by_zero false is holds later = (holds.0, later holds.1)
        by_zero true is holds later = (
          zeros_are (take edge.size (drop edge.at bytes)) edge.size
              (subst (λ (classes : List ℕ). HaveClasses classes (take edge.size (drop edge.at bytes)))
              (under.0 ∙ ap (λ (b : Bool). replicate edge.size (if b then 0 else value_class (now edge.value))) is) (HaveClasses-range edge.at edge.size plane bytes has))
              ∙ sym (ap (λ (w : Word). take edge.size (word_bytes w)) (fits.0.zero is) ∙ null_bytes edge.size fits.0.small),
          later holds,
        )

  -- Nodes.

  -- what is asked of the edges and the plane of a node
  pub record IsFit (count : ℕ) (node : Node) : Type 0 where
    pub inside : list_all (lies_in count) node.edges ≡ true
    pub order : are_in_order node.edges ≡ true
    pub long : length node.plane ≡ count
    pub low : AreNoLower now node.plane node.edges

  module _ (word : ℕ → Word) (count : ℕ) (storage : BlockKind) (node : Node) (block : Block) (fit : IsFit count node) (fits : AllEdges (Fits now word) node.edges) where
    pub node_on : IsNode count storage node word block → IsNode count storage (node_now now node) word block
    node_on is = record {
      live = is.live;
      kind = is.kind;
      size = is.size;
      edges = edges_on word block.bytes node.edges is.edges;
      classes = classes_on word block.bytes node.edges node.plane (subst (λ (n : ℕ). list_all (lies_in n) node.edges ≡ true) (sym is.size) fit.inside) fits is.edges is.classes;
    }

    pub node_back : IsNode count storage (node_now now node) word block → IsNode count storage node word block
    node_back is = record {
      live = is.live;
      kind = is.kind;
      size = is.size;
      edges = edges_back word block.bytes node.edges (plane_now now node.edges node.plane) is.classes (plane_under now count node.edges node.plane fit.long fit.inside fit.order) fits is.edges;
      classes = plane_had now count node.edges node.plane block.bytes fit.long fit.inside fit.order fit.low is.classes;
    }

  -- Objects.

  module _ (memory : List Block) (object : Object) (word : ℕ → Word) (own : ℕ → Option ℤ) where
    module _ (links : Links) (node : Node) (fit : IsFit object.size node) (fits : (number : ℕ) → AllEdges (Fits now (word_at word own number)) node.edges) where
      nodes_on : (after before : Word) (blocks : List ℕ) → AreNodes memory object links node word own after before blocks → AreNodes memory (object_now now object) links (node_now now node) word own after before blocks
      nodes_on after before [] are = tt
      nodes_on after before (number ∷ rest) are = (
        record {
          block = are.0.block;
          there = are.0.there;
          node = node_on (word_at word own number) object.size object.kind node are.0.block fit (fits number) are.0.node;
          next = are.0.next;
          prev = are.0.prev;
        },
        nodes_on after (To number (pos links.back)) rest are.1,
      )

      nodes_back : (after before : Word) (blocks : List ℕ) → AreNodes memory (object_now now object) links (node_now now node) word own after before blocks → AreNodes memory object links node word own after before blocks
      nodes_back after before [] are = tt
      nodes_back after before (number ∷ rest) are = (
        record {
          block = are.0.block;
          there = are.0.there;
          node = node_back (word_at word own number) object.size object.kind node are.0.block fit (fits number) are.0.node;
          next = are.0.next;
          prev = are.0.prev;
        },
        nodes_back after (To number (pos links.back)) rest are.1,
      )

    -- what is asked of a live object
    pub record ObjectFits : Type 0 where
      pub fit : IsFit object.size (node_of object)
      pub alone : AllEdges (Fits now word) (node_of object).edges
      pub at_node : (number : ℕ) → AllEdges (Fits now (word_at word own number)) (node_of object).edges

    shape_on : (shape : Shape) (blocks : List ℕ) → IsFit object.size (node_in shape (own_node object)) → AllEdges (Fits now word) (node_in shape (own_node object)).edges →
        ((number : ℕ) → AllEdges (Fits now (word_at word own number)) (node_in shape (own_node object)).edges) → HasShape shape memory object word own blocks → HasShape (shape_now now shape) memory (object_now now object) word own blocks
    shape_on Region blocks fit alone at_node has = (
      has.0,
      has.1,
      record { block = has.2.block; there = has.2.there; node = node_on word object.size object.kind (own_node object) has.2.block fit alone has.2.node },
    )
    shape_on (Segment twofold head next prev back least next_value prev_value node) blocks fit alone at_node has = (
      has.0,
      nodes_on (record { twofold = twofold; head = head; next = next; prev = prev; back = back; least = least; next_value = next_value; prev_value = prev_value }) node fit at_node
          (word next_value) (end_word None (word prev_value) back (pos back)) blocks has.1,
    )

    shape_back : (shape : Shape) (blocks : List ℕ) → IsFit object.size (node_in shape (own_node object)) → AllEdges (Fits now word) (node_in shape (own_node object)).edges →
        ((number : ℕ) → AllEdges (Fits now (word_at word own number)) (node_in shape (own_node object)).edges) → HasShape (shape_now now shape) memory (object_now now object) word own blocks → HasShape shape memory object word own blocks
    shape_back Region blocks fit alone at_node has = (
      has.0,
      has.1,
      record { block = has.2.block; there = has.2.there; node = node_back word object.size object.kind (own_node object) has.2.block fit alone has.2.node },
    )
    shape_back (Segment twofold head next prev back least next_value prev_value node) blocks fit alone at_node has = (
      has.0,
      nodes_back (record { twofold = twofold; head = head; next = next; prev = prev; back = back; least = least; next_value = next_value; prev_value = prev_value }) node fit at_node
          (word next_value) (end_word None (word prev_value) back (pos back)) blocks has.1,
    )

    pub blocks_on : (blocks : List ℕ) → (object.live ≡ true → ObjectFits) → HasBlocks memory object word own blocks → HasBlocks memory (object_now now object) word own blocks
    blocks_on blocks fits = by_life object.live refl
      where
        by_life : (b : Bool) → object.live ≡ b → HasBlocksAs b memory object word own blocks → HasBlocksAs b memory (object_now now object) word own blocks
        by_life true live has = let all = fits live in shape_on object.shape blocks all.fit all.alone all.at_node has
        by_life false dead has = has

    pub blocks_back : (blocks : List ℕ) → (object.live ≡ true → ObjectFits) → HasBlocks memory (object_now now object) word own blocks → HasBlocks memory object word own blocks
    blocks_back blocks fits = by_life object.live refl
      where
        by_life : (b : Bool) → object.live ≡ b → HasBlocksAs b memory (object_now now object) word own blocks → HasBlocksAs b memory object word own blocks
        by_life true live has = let all = fits live in shape_back object.shape blocks all.fit all.alone all.at_node has
        by_life false dead has = has
