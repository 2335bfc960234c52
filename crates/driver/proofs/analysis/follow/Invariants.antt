use Rattle.driver.specs.Looping.{Worked}
use Rattle.driver.proofs.analysis.follow.Given as goal

abbrev pub invariant-loop-at : goal.invariant-loop-at
invariant-loop-at l = Worked l.flow l.limits l.work l.at
