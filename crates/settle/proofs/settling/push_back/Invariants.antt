use Rattle.std.proofs.Common.{◌≡◌, ◌++◌, reverse, length}
use Rattle.settle.proofs.settling.push_back.Given as goal

abbrev pub invariant-loop-case : goal.invariant-loop-case
invariant-loop-case l = l.left.items ++ reverse l.cases.items ≡ l.fn.left.items ++ reverse l.fn.cases

abbrev pub decreases-loop-case : goal.decreases-loop-case
decreases-loop-case l = length l.cases.items
