-- What the search comes to stays.
use Rattle.lowering.specs.Lefts.{StaysWorth}
use Rattle.lowering.proofs.left.look_at_all.Given as goal

abbrev pub invariant-loop-turns : goal.invariant-loop-turns
invariant-loop-turns l = StaysWorth l.source l.initial.search l.search

abbrev pub decreases-loop-turns : goal.decreases-loop-turns
decreases-loop-turns l = l.turns
