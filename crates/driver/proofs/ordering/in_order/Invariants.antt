use Rattle.std.proofs.Common.{map}
use Rattle.driver.specs.Ordering.{marked, ArePut}
use Rattle.driver.proofs.ordering.in_order.Given as goal

abbrev pub invariant-loop-at : goal.invariant-loop-at
invariant-loop-at l = ArePut (map (marked l.marks) l.warnings) l.ordered.items l.at
