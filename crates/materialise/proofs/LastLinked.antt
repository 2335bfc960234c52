-- The new region: the last node of the segment, which holds its links.
use Rattle.std.proofs.Common.{◌≡◌, ℕ, ◌+◌, true, List, length, pos, refl, inr}
use Rattle.bytes_core.specs.declared.block.Block.{Block}
use Rattle.bytes_core.specs.declared.word.Word.{Word}
use Rattle.graph.specs.declared.template.Node.{Node}
use Rattle.graph.specs.declared.value.Target.TheVariants.{Last}
use Rattle.graph.specs.declared.value.Value.{Value}
use Rattle.graph.specs.declared.value.Value.TheVariants.{Address}
use Rattle.graph.specs.declared.parts.Parts.{Parts}
use Rattle.graph.specs.Whole.{IsGraph}
use Rattle.graph.specs.Meaning.{HoldsAt, IsNode, Ends, HasWord}
use Rattle.materialise.specs.SplitFirst.{own_values, alone, link_value}
use Rattle.materialise.proofs.FirstCase.{IsSplit}
use Rattle.materialise.proofs.FirstForm.{next_room, prev_room, links_apart}
use Rattle.materialise.proofs.FirstLinked.{AreAlone, room_alone, node_alone, node_apart}
use Rattle.materialise.proofs.FirstNode.{HasRoom, link_on, link_back, room_more}
use Rattle.materialise.proofs.LastCase.{change, prev_edge, linked_node, new_node}

module _ (parts : Parts) (graph : IsGraph parts) (key : ℕ) (split : IsSplit parts key) (twofold : split.links.twofold ≡ true) (count : ℕ) (blocks : ℕ → List ℕ) (ends : ℕ → Ends) (word other : ℕ → Word) (block : Block)
    (agree : AreAlone key parts word other split.node.edges)
    (prev : HasWord count blocks ends (Address key (pos split.links.back) Last) (word (length parts.values + length (own_values key parts))))
    (next : HasWord count blocks ends (change parts graph key split (link_value parts split.links.next_value)) (word split.links.next_value)) where
  abbrev owned : ℕ
  owned = length parts.values + length (own_values key parts)

  abbrev behind : Value
  behind = change parts graph key split (link_value parts split.links.next_value)

  abbrev plain : Node
  plain = alone key parts split.node

  abbrev linked : Node
  linked = linked_node parts graph key split

  prev_has : HasRoom split.base.size plain split.links.prev
  prev_has = room_alone key parts split.base.size split.node split.links.prev (prev_room parts graph key split twofold)

  next_has : HasRoom split.base.size linked split.links.next
  next_has =
      room_more split.base.size plain (Address key (pos split.links.back) Last) (prev_edge parts graph key split) split.links.next refl (inr (links_apart parts graph key split twofold)) prev_has
      (room_alone key parts split.base.size split.node split.links.next (next_room parts graph key split))

  pub new_on : IsNode split.base.size split.base.kind split.node other block → HoldsAt block.bytes split.links.next (word split.links.next_value) → HoldsAt block.bytes split.links.prev (word owned) →
      IsNode split.base.size split.base.kind (new_node parts graph key split) word block
  new_on is onward backward =
      link_on count blocks ends word split.base.size split.base.kind linked split.links.next behind split.links.next_value next next_has block
      (link_on count blocks ends word split.base.size split.base.kind plain split.links.prev (Address key (pos split.links.back) Last) owned prev prev_has block
      (node_alone key parts word other split.base.size split.base.kind split.node block agree is) backward) onward

  pub new_back : IsNode split.base.size split.base.kind (new_node parts graph key split) word block →
      IsNode split.base.size split.base.kind split.node other block × HoldsAt block.bytes split.links.next (word split.links.next_value) × HoldsAt block.bytes split.links.prev (word owned)
  new_back is =
      let back = link_back count blocks ends word split.base.size split.base.kind linked split.links.next behind split.links.next_value next next_has block is in
      let one = link_back count blocks ends word split.base.size split.base.kind plain split.links.prev (Address key (pos split.links.back) Last) owned prev prev_has block back.0 in
      (node_apart key parts word other split.base.size split.base.kind split.node block agree one.0, back.1, one.1)
