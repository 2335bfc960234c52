use Rattle.std.proofs.Common.{◌≡◌, take}
use Rattle.graph.proofs.copies.copy_values.Given as goal

abbrev pub invariant-loop-key : goal.invariant-loop-key
invariant-loop-key l = l.copy ≡ take l.key l.values
