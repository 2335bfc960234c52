use Rattle.std.proofs.Common.{◌≡◌, ◌++◌, drop}
use Rattle.cgrammar.proofs.scope.copied.Given as goal

abbrev pub invariant-loop-names : goal.invariant-loop-names
invariant-loop-names l = l.copy.items ++ drop l.names-index l.sets ≡ l.sets
