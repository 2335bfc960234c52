use Rattle.std.proofs.Common.{◌≡◌, false, replicate}
use Rattle.ctokens.proofs.need_search.started.Given as goal

abbrev pub invariant-loop : goal.invariant-loop
invariant-loop l = l.marked.items ≡ replicate l.counter false
