-- Where the worklist has come to its end, what is paired is what is reached.
use Rattle.std.proofs.Common.{sym, ◌∙◌}
use Rattle.graph.specs.Meaning.{Maps}
use Rattle.graph.specs.Nodes.{node_of}
use Rattle.cover.specs.declared.content.Content.TheVariants.{Leads}
use Rattle.cover.specs.declared.found.Found.{Found}
use Rattle.cover.specs.Covers.{Pairing, Link, Objects, Values, IsReached, ByVariable, ByRegister, ByPort, ByEdge, ByNext, ByPrev, ByAddress, IsIn, IsCover}
use Rattle.cover.specs.Found.{pairing_of, IsSound, IsLinked, IsClosed}
use Rattle.cover.proofs.Least.{all-at, reached-in}

module _ (wide narrow : Maps) (found : Found) (sound : IsSound wide narrow found) (closed : IsClosed wide narrow found) where
  pub reached-found : (link : Link) → IsReached wide narrow link → IsIn (pairing_of found) link
  reached-found link (ByVariable variable one other one_is other_is) = closed.variables variable one other one_is other_is
  reached-found link (ByRegister register one other one_is other_is) = closed.registers register one other one_is other_is
  reached-found link (ByPort place one other one_is other_is) = closed.ports place one other one_is other_is
  reached-found link (ByEdge one other object with edge holds before one_is other_is live among held) =
      let linked = all-at (IsLinked narrow found (node_of with)) (node_of object).edges edge among ((closed.objects one other object with (reached-found (Objects one other) before) one_is other_is).edges live) in
      linked.stands ∙ sym linked.held ∙ held
  reached-found link (ByNext one other object with links other_links before one_is other_is links_is other_links_is) =
      ((closed.objects one other object with (reached-found (Objects one other) before) one_is other_is).ends links other_links links_is other_links_is).next
  reached-found link (ByPrev one other object with links other_links before one_is other_is links_is other_links_is) =
      ((closed.objects one other object with (reached-found (Objects one other) before) one_is other_is).ends links other_links links_is other_links_is).prev
  reached-found link (ByAddress key one other offset offset' target target' before is) =
      sound.addresses key one other offset offset' target target' (reached-found (Values key (Leads other offset target)) before) is

  -- it lies within each pairing that covers
  pub found-in : (p : Pairing) → IsCover wide narrow p → (link : Link) → IsIn (pairing_of found) link → IsIn p link
  found-in p cover link is = reached-in wide narrow p cover link (sound.reached link is)
