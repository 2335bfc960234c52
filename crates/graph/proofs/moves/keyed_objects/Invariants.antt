use Rattle.std.proofs.Common.{◌≡◌, length}
use Rattle.graph.specs.Renaming.{objects_from}
use Rattle.graph.proofs.moves.keyed_objects.Given as goal

abbrev pub invariant-loop-object : goal.invariant-loop-object
invariant-loop-object l = (l.entries.items ≡ objects_from 0 l.yielded) × (l.key ≡ length l.yielded)
