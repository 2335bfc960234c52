use Rattle.std.proofs.Common.{◌≡◌, true}
use Rattle.changes.specs.Reaching.{are_excluded}
use Rattle.changes.proofs.reach.is_large.Given as goal

abbrev pub invariant-loop-number : goal.invariant-loop-number
invariant-loop-number l = are_excluded l.graph l.key l.number ≡ true
