use Rattle.std.proofs.Common.{◌≡◌, take}
use Rattle.graph.specs.Renaming.{values_from}
use Rattle.graph.proofs.copies.key_values.Given as goal

abbrev pub invariant-loop-key : goal.invariant-loop-key
invariant-loop-key l = l.entries ≡ values_from 0 (take l.key l.values)
