use Rattle.std.proofs.Common.{◌≡◌, ◌++◌}
use Rattle.transfer.proofs.together.put_graphs.Given as goal

abbrev pub invariant-loop-graph : goal.invariant-loop-graph
invariant-loop-graph l = l.graphs ≡ l.initial.graphs ++ l.yielded
