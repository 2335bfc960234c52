-- Copies through any word: where each fault that a graph lists is met by some state.
use Rattle.std.specs.Prelude.{◌≡◌, ℕ, Bool, true, ◌&&◌, nat_le, Contains}
use Rattle.std.specs.List.{list_any}
use Rattle.graph.specs.declared.parts.Parts.{Parts}
use Rattle.graph.specs.declared.post.Post.{Post}
use Rattle.graph.specs.Nodes.{is_region}
use Rattle.changes.specs.AnyWords.{HasPlaceForOne}
use Rattle.changes.specs.Following.{SomeFaults}
use Rattle.range_steps.specs.Copies.{FaultsCopying}
use Rattle.range_steps.specs.Copying.{has_room}

-- where an object lives one that is a region does, where one has as many bytes as are copied such a one has, and the graph may have one object more
pub record HasPlaceToCopy (parts : Parts) (count : ℕ) : Type 0 where
  pub one : HasPlaceForOne parts
  pub region : has_room parts count ≡ true → list_any (λ entry. entry.object.live && (is_region entry.object.shape && nat_le count entry.object.size)) parts.objects ≡ true

-- then each fault that is listed is met, also through any word
pub record MeetsCopied (parts : Parts) (to from length : ℕ) (disjoint : Bool) (post : Post) : Type 0 where
  pub met : HasPlaceToCopy parts length → (kind : ℕ) → Contains post.kinds kind → SomeFaults parts (FaultsCopying to from length disjoint kind)
