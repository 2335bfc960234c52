use Rattle.driver.specs.Chains.{AreMarked}
use Rattle.driver.proofs.chains.chained.Given as goal

abbrev pub invariant-loop-at : goal.invariant-loop-at
invariant-loop-at l = AreMarked l.trail l.marks.items l.at
