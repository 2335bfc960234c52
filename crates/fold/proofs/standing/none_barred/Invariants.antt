use Rattle.std.proofs.Common.{◌≡◌, not, length}
use Rattle.std.specs.List.{list_all}
use Rattle.fold.specs.Standing.{standing, is_barred}
use Rattle.fold.proofs.standing.none_barred.Given as goal

abbrev pub invariant-loop-left : goal.invariant-loop-left
invariant-loop-left l =
    list_all (λ edge. not (is_barred (standing l.graph l.fold l.behind edge))) l.before ≡ list_all (λ edge. not (is_barred (standing l.graph l.fold l.behind edge))) l.left

abbrev pub decreases-loop-left : goal.decreases-loop-left
decreases-loop-left l = length l.left
