-- What is said of the states that follow but for dead blocks is said of them up to alike ones.
use Rattle.std.proofs.Common.{ℕ, length}
use Rattle.bytes_core.specs.declared.block.Block.{Block}
use Rattle.std.specs.Prelude.{List}
use Rattle.graph.specs.declared.parts.Parts.{Parts}
use Rattle.graph.specs.declared.post.Post.{Post}
use Rattle.graph.specs.State.{State, IsState}
use Rattle.changes.specs.Following.{Follows, StepMeans}
use Rattle.changes.specs.FollowingAlike.{FollowsAlike, StepMeansAlike}
use Rattle.changes.proofs.DeadAlike.{same_number, below, dead_alike, more_dead}

pub follows_alike : (parts : Parts) (Steps : State → State → Type 0) (next : State) → IsState next → Follows parts Steps next → FollowsAlike parts Steps next
follows_alike parts Steps next is follows = record {
  state = follows.state;
  next' = follows.next';
  is = follows.is;
  stands = follows.stands;
  steps = follows.steps;
  there = same_number;
  back = same_number;
  paired = below (length next.memory);
  alike = dead_alike next follows.next' is (more_dead next follows.next' follows.more);
}

pub means_alike : (parts : Parts) (Steps : State → State → Type 0) (Faults : ℕ → State → Type 0) (Tail : Parts → Type 0) (Room : List Block → Type 0) (post : Post) →
    StepMeans parts Steps Faults Tail post → StepMeansAlike parts Steps Faults Tail Room post
means_alike parts Steps Faults Tail Room post means = record {
  sound = means.sound;
  exact = λ after next none among is stands room. follows_alike parts Steps next is (means.exact after next none among is stands);
  kinds = λ state kind is stands faults. means.kinds state kind stands faults;
  met = means.met;
  ascending = means.ascending;
  tail = means.tail;
}
