use Rattle.std.proofs.Common.{◌≡◌, ◌++◌, ◌+◌, ◌<◌, length}
use Rattle.fold.specs.Folded.{joined}
use Rattle.fold.specs.Standing.{standing}
use Rattle.fold.proofs.joined.push_joined.Given as goal

abbrev pub invariant-loop-left : goal.invariant-loop-left
invariant-loop-left l = record {
  edges : l.fn.kept ++ joined (standing l.graph l.fold l.behind) l.from l.edges ≡ l.kept ++ joined (standing l.graph l.fold l.behind) l.fresh l.left;
  few : l.fresh + length l.left < 4294967296;
}

abbrev pub decreases-loop-left : goal.decreases-loop-left
decreases-loop-left l = length l.left
