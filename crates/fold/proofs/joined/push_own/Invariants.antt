use Rattle.std.proofs.Common.{◌≡◌, ◌++◌, ◌+◌, ◌<◌, length}
use Rattle.graph.specs.Renaming.{values_from}
use Rattle.fold.specs.Folded.{own_addresses}
use Rattle.fold.specs.Standing.{standing}
use Rattle.fold.proofs.joined.push_own.Given as goal

abbrev pub invariant-loop-left : goal.invariant-loop-left
invariant-loop-left l = record {
  values : l.fn.values ++ values_from l.from (own_addresses l.fold.first (standing l.graph l.fold l.behind) l.edges)
      ≡ l.values ++ values_from l.key (own_addresses l.fold.first (standing l.graph l.fold l.behind) l.left);
  few : l.key + length l.left < 4294967296;
}

abbrev pub decreases-loop-left : goal.decreases-loop-left
decreases-loop-left l = length l.left
