use Rattle.driver.specs.Growing.{AddsSo}
use Rattle.driver.proofs.adding.add.Given as goal

abbrev pub invariant-loop : goal.invariant-loop
invariant-loop l = AddsSo l.flow l.limits l.fn.work l.work l.point l.fn.cause l.fn.graph l.put
