use Rattle.std.proofs.Common.{◌≡◌, Some}
use Rattle.graph.specs.Ends.{followed}
use Rattle.graph.proofs.ends.go.Given as goal

abbrev pub invariant-loop : goal.invariant-loop
invariant-loop l = followed l.parts l.counter (Some l.fn.start) ≡ Some l.end
