use Rattle.std.proofs.Common.{◌≡◌, length}
use Rattle.graph.specs.Renaming.{values_from}
use Rattle.graph.proofs.moves.keyed_values.Given as goal

abbrev pub invariant-loop-value : goal.invariant-loop-value
invariant-loop-value l = (l.entries.items ≡ values_from 0 l.yielded) × (l.key ≡ length l.yielded)
