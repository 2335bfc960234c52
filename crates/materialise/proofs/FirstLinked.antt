-- The new region: a node of the segment that holds its links.
use Rattle.std.proofs.Common.{◌≡◌, ℕ, ◌+◌, Bool, true, false, not, List, [], ◌∷◌, map, length, nat_eq, pos, refl, sym, subst, inl}
use Rattle.bytes_core.specs.declared.block.Block.{Block}
use Rattle.bytes_core.specs.declared.block.BlockKind.{BlockKind}
use Rattle.bytes_core.specs.declared.byte.Byte.{Byte}
use Rattle.bytes_core.specs.declared.word.Word.{Word}
use Rattle.graph.specs.declared.edges.HasValue.{HasValue}
use Rattle.graph.specs.declared.template.Node.{Node}
use Rattle.graph.specs.declared.value.Target.TheVariants.{First}
use Rattle.graph.specs.declared.value.Value.{Value}
use Rattle.graph.specs.declared.value.Value.TheVariants.{Address}
use Rattle.graph.specs.declared.parts.Parts.{Parts}
use Rattle.graph.specs.Closed.{OnEdges}
use Rattle.graph.specs.Whole.{IsGraph}
use Rattle.graph.specs.Meaning.{HoldEdges, HoldsWord, HoldsAt, HoldsBack, IsNode, Ends, HasWord}
use Rattle.graph.proofs.Tests.{and_left, and_right, and_both}
use Rattle.materialise.specs.SplitFirst.{own_values, alone_key, alone, with_link_if, link_value}
use Rattle.materialise.proofs.FirstCase.{IsSplit, change, next_edge, prev_edge, linked_node, new_node}
use Rattle.materialise.proofs.FirstForm.{next_room, prev_room, links_apart}
use Rattle.materialise.proofs.FirstNode.{is_free, HasRoom, link_on, link_back, room_more}

module _ (key : ℕ) (parts : Parts) where
  abbrev turned : HasValue → HasValue
  turned edge = record edge { value = alone_key key parts edge.value }

  free_alone : (place : ℕ) (edges : List HasValue) → is_free place edges ≡ true → is_free place (map turned edges) ≡ true
  free_alone place [] free = refl
  free_alone place (edge ∷ rest) free =
      and_both (not (nat_eq edge.at place)) (is_free place (map turned rest)) (and_left (not (nat_eq edge.at place)) (is_free place rest) free) (free_alone place rest (and_right (not (nat_eq edge.at place)) (is_free place rest) free))

  pub room_alone : (size : ℕ) (node : Node) (at : ℕ) → HasRoom size node at → HasRoom size (alone key parts node) at
  room_alone size node at room = record { inside = room.inside; long = room.long; any = room.any; free = free_alone at node.edges room.free }

  module _ (word other : ℕ → Word) where
    -- words at the values that a node alone holds in place of others
    abbrev pub AreAlone : List HasValue → Type 0
    AreAlone edges = OnEdges (λ value. word (alone_key key parts value) ≡ other value) edges

    edges_alone : (bytes : List Byte) (edges : List HasValue) → AreAlone edges → HoldEdges bytes other edges → HoldEdges bytes word (map turned edges)
    edges_alone bytes [] agree holds = tt
    edges_alone bytes (edge ∷ rest) agree holds = (subst (λ (w : Word). HoldsWord bytes edge w) (sym agree.0) holds.0, edges_alone bytes rest agree.1 holds.1)

    edges_apart : (bytes : List Byte) (edges : List HasValue) → AreAlone edges → HoldEdges bytes word (map turned edges) → HoldEdges bytes other edges
    edges_apart bytes [] agree holds = tt
    edges_apart bytes (edge ∷ rest) agree holds = (subst (λ (w : Word). HoldsWord bytes edge w) agree.0 holds.0, edges_apart bytes rest agree.1 holds.1)

    pub node_alone : (size : ℕ) (storage : BlockKind) (node : Node) (block : Block) → AreAlone node.edges → IsNode size storage node other block → IsNode size storage (alone key parts node) word block
    node_alone size storage node block agree is = record { live = is.live; kind = is.kind; size = is.size; edges = edges_alone block.bytes node.edges agree is.edges; classes = is.classes }

    pub node_apart : (size : ℕ) (storage : BlockKind) (node : Node) (block : Block) → AreAlone node.edges → IsNode size storage (alone key parts node) word block → IsNode size storage node other block
    node_apart size storage node block agree is = record { live = is.live; kind = is.kind; size = is.size; edges = edges_apart block.bytes node.edges agree is.edges; classes = is.classes }

module _ (parts : Parts) (graph : IsGraph parts) (key : ℕ) (split : IsSplit parts key) (count : ℕ) (blocks : ℕ → List ℕ) (ends : ℕ → Ends) (word other : ℕ → Word) (block : Block)
    (agree : AreAlone key parts word other split.node.edges)
    (next : HasWord count blocks ends (Address key (pos split.links.head) First) (word (length parts.values + length (own_values key parts))))
    (prev : split.links.twofold ≡ true → HasWord count blocks ends (change parts graph key split (link_value parts split.links.prev_value)) (word split.links.prev_value)) where
  abbrev owned : ℕ
  owned = length parts.values + length (own_values key parts)

  abbrev before : Value
  before = change parts graph key split (link_value parts split.links.prev_value)

  abbrev plain : Node
  plain = alone key parts split.node

  abbrev linked : Node
  linked = linked_node parts graph key split

  next_has : HasRoom split.base.size plain split.links.next
  next_has = room_alone key parts split.base.size split.node split.links.next (next_room parts graph key split)

  prev_has : split.links.twofold ≡ true → HasRoom split.base.size linked split.links.prev
  prev_has twofold =
      room_more split.base.size plain (Address key (pos split.links.head) First) (next_edge parts graph key split) split.links.prev refl (inl (links_apart parts graph key split twofold)) next_has
      (room_alone key parts split.base.size split.node split.links.prev (prev_room parts graph key split twofold))

  pub new_on : IsNode split.base.size split.base.kind split.node other block → HoldsAt block.bytes split.links.next (word owned) → HoldsBack split.links.twofold block.bytes split.links.prev (word split.links.prev_value) →
      IsNode split.base.size split.base.kind (new_node parts graph key split) word block
  new_on is onward backward = by_way split.links.twofold refl backward
    where
      behind : IsNode split.base.size split.base.kind linked word block
      behind =
          link_on count blocks ends word split.base.size split.base.kind plain split.links.next (Address key (pos split.links.head) First) owned next next_has block
          (node_alone key parts word other split.base.size split.base.kind split.node block agree is) onward

      by_way : (b : Bool) → split.links.twofold ≡ b → HoldsBack b block.bytes split.links.prev (word split.links.prev_value) →
          IsNode split.base.size split.base.kind (with_link_if b before (prev_edge parts graph key split) linked) word block
      by_way false single holds = behind
      by_way true twofold holds = link_on count blocks ends word split.base.size split.base.kind linked split.links.prev before split.links.prev_value (prev twofold) (prev_has twofold) block behind holds

  pub new_back : IsNode split.base.size split.base.kind (new_node parts graph key split) word block →
      IsNode split.base.size split.base.kind split.node other block × HoldsAt block.bytes split.links.next (word owned) × HoldsBack split.links.twofold block.bytes split.links.prev (word split.links.prev_value)
  new_back is =
      let back = by_way split.links.twofold refl is in
      let one = link_back count blocks ends word split.base.size split.base.kind plain split.links.next (Address key (pos split.links.head) First) owned next next_has block back.0 in
      (node_apart key parts word other split.base.size split.base.kind split.node block agree one.0, one.1, back.1)
    where
      by_way : (b : Bool) → split.links.twofold ≡ b → IsNode split.base.size split.base.kind (with_link_if b before (prev_edge parts graph key split) linked) word block →
          IsNode split.base.size split.base.kind linked word block × HoldsBack b block.bytes split.links.prev (word split.links.prev_value)
      by_way false single is = (is, tt)
      by_way true twofold is = link_back count blocks ends word split.base.size split.base.kind linked split.links.prev before split.links.prev_value (prev twofold) (prev_has twofold) block is
