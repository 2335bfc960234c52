use Rattle.std.proofs.Common.{◌≡◌, length}
use Rattle.std.specs.List.{list_all}
use Rattle.fold.specs.Standing.{is_met}
use Rattle.fold.proofs.standing.all_met.Given as goal

abbrev pub invariant-loop-left : goal.invariant-loop-left
invariant-loop-left l = list_all (is_met l.graph l.before) l.behind ≡ list_all (is_met l.graph l.before) l.left

abbrev pub decreases-loop-left : goal.decreases-loop-left
decreases-loop-left l = length l.left
