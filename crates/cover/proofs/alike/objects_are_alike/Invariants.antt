use Rattle.std.proofs.Common.{◌-◌, length}
use Rattle.graph.specs.Meaning.{maps_of}
use Rattle.cover.specs.Checked.{AreSomeAlike}
use Rattle.cover.proofs.alike.objects_are_alike.Given as goal

abbrev pub invariant-loop-at : goal.invariant-loop-at
invariant-loop-at l = AreSomeAlike (maps_of l.wide) (maps_of l.narrow) l.found l.at

abbrev pub decreases-loop-at : goal.decreases-loop-at
decreases-loop-at l = length l.found.objects.items - l.at
