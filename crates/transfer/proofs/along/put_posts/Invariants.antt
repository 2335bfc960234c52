use Rattle.std.proofs.Common.{◌≡◌, true, List, ◌++◌, length}
use Rattle.std.specs.Prelude.{All}
use Rattle.std.specs.List.{list_any}
use Rattle.graph.specs.declared.post.Post.{Post}
use Rattle.transfer.specs.Along.{is_full}
use Rattle.transfer.specs.Fitting.{MayFollow}
use Rattle.transfer.specs.Settling.{ArePostsIn}
use Rattle.transfer.proofs.along.put_posts.Given as goal

abbrev pub invariant-loop-left : goal.invariant-loop-left
invariant-loop-left l = record {
  known : (more : List Post) → ArePostsIn l.flow l.point l.instr l.left more → ArePostsIn l.flow l.point l.instr l.graphs (l.posts ++ more);
  may : All (MayFollow l.flow l.point l.instr) l.left;
  full : list_any (is_full l.instr) l.left ≡ true → list_any (is_full l.instr) l.graphs ≡ true;
}

abbrev pub decreases-loop-left : goal.decreases-loop-left
decreases-loop-left l = length l.left
