use Rattle.driver.specs.Looping.{IsResting}
use Rattle.driver.proofs.resting.tell_rest.Given as goal

abbrev pub invariant-loop-which : goal.invariant-loop-which
invariant-loop-which l = IsResting l.flow l.limits l.work l.at l.which
