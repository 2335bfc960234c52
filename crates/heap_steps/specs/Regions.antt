-- Graphs of regions: each state that one stands for has room for a block more, so steps by which blocks die are exact in each.
use Rattle.std.specs.Prelude.{◌≡◌, true, List, None, Contains}
use Rattle.std.specs.List.{list_all}
use Rattle.graph.specs.declared.parts.KeyedObject.{KeyedObject}
use Rattle.graph.specs.declared.parts.Parts.{Parts}
use Rattle.graph.specs.declared.post.Post.{Post}
use Rattle.graph.specs.Meaning.{StandsFor}
use Rattle.graph.specs.Nodes.{is_region}
use Rattle.graph.specs.State.{State, IsState}
use Rattle.changes.specs.FollowingAlike.{FollowsAlike}

abbrev pub AreRegions : List KeyedObject → Type 0
AreRegions objects = list_all (λ (entry : KeyedObject). is_region entry.object.shape) objects ≡ true

-- where no loss is named, and a graph's objects are regions, the post stands for no other states than those that are alike one that follows
pub record IsExactOfRegions (parts : Parts) (Steps : State → State → Type 0) (post : Post) : Type 0 where
  pub exact : post.loss ≡ None → AreRegions parts.objects → (after : Parts) (next : State) → Contains post.graphs after → IsState next → StandsFor after next → FollowsAlike parts Steps next
