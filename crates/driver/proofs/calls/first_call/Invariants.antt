use Rattle.driver.specs.Calls.{TellsCallBelow}
use Rattle.driver.proofs.calls.first_call.Given as goal

abbrev pub invariant-loop-number : goal.invariant-loop-number
invariant-loop-number l = TellsCallBelow l.flow.edges l.number l.found
