-- Accesses through any word: where each fault that a graph lists is met by some state.
use Rattle.std.specs.Prelude.{◌≡◌, ℕ, ◌+◌, ◌^◌, ◌<◌, true, ◌&&◌, Contains}
use Rattle.std.specs.List.{list_any}
use Rattle.graph.specs.declared.parts.Parts.{Parts}
use Rattle.graph.specs.declared.post.Post.{Post}
use Rattle.graph.specs.Nodes.{is_region}
use Rattle.graph.specs.State.{State}
use Rattle.graph.specs.WellFormed.{nodes}
use Rattle.changes.specs.Following.{SomeFaults}
use Rattle.changes.specs.Reaching.{has_live_object}

-- where an object lives one that is a region does, and the graph may have one object more
pub record HasPlaceForOne (parts : Parts) : Type 0 where
  pub region : has_live_object parts ≡ true → list_any (λ entry. entry.object.live && is_region entry.object.shape) parts.objects ≡ true
  pub room : nodes parts + 1 < 2 ^ 30

-- then each fault that is listed is met, also through any word
pub record MeetsListed (parts : Parts) (Faults : ℕ → State → Type 0) (post : Post) : Type 0 where
  pub met : HasPlaceForOne parts → (kind : ℕ) → Contains post.kinds kind → SomeFaults parts (Faults kind)
