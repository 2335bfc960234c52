use Rattle.std.proofs.Common.{◌-◌, length}
use Rattle.graph.specs.Meaning.{maps_of}
use Rattle.cover.specs.Found.{pairing_of}
use Rattle.cover.specs.Checked.{AreSomePairsApart}
use Rattle.cover.proofs.apart.pairs_are_apart.Given as goal

abbrev pub invariant-loop-at : goal.invariant-loop-at
invariant-loop-at l = AreSomePairsApart (maps_of l.wide) (maps_of l.narrow) (pairing_of l.found) l.at

abbrev pub decreases-loop-at : goal.decreases-loop-at
decreases-loop-at l = length l.wide.unequal - l.at
