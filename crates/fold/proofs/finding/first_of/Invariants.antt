use Rattle.std.proofs.Common.{◌≤◌, ◌-◌, length}
use Rattle.fold.proofs.Tried.{IsTried}
use Rattle.fold.proofs.finding.first_of.Given as goal

abbrev pub invariant-loop-at : goal.invariant-loop-at
invariant-loop-at l = record {
  tried : IsTried l.graph l.folds l.at;
  within : l.at ≤ length l.folds;
}

abbrev pub decreases-loop-at : goal.decreases-loop-at
decreases-loop-at l = length l.folds - l.at
