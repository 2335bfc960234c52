use Rattle.std.proofs.Common.{◌≡◌, ◌++◌, drop}
use Rattle.cgrammar.proofs.bounds.copied.Given as goal

abbrev pub invariant-loop-numbers : goal.invariant-loop-numbers
invariant-loop-numbers l = l.copy.items ++ drop l.numbers-index l.levels ≡ l.levels
