use Rattle.std.proofs.Common.{◌≡◌, take}
use Rattle.graph.specs.Renaming.{objects_from}
use Rattle.graph.proofs.copies.key_objects.Given as goal

abbrev pub invariant-loop-key : goal.invariant-loop-key
invariant-loop-key l = l.entries ≡ objects_from 0 (take l.key l.objects)
