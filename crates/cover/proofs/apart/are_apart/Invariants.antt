use Rattle.std.proofs.Common.{◌-◌, length}
use Rattle.graph.specs.Meaning.{maps_of}
use Rattle.cover.specs.Checked.{IsNoneOf}
use Rattle.cover.proofs.apart.are_apart.Given as goal

abbrev pub invariant-loop-at : goal.invariant-loop-at
invariant-loop-at l = IsNoneOf (maps_of l.narrow) l.one l.other l.at

abbrev pub decreases-loop-at : goal.decreases-loop-at
decreases-loop-at l = length l.narrow.unequal - l.at
