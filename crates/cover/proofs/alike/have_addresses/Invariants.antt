use Rattle.std.proofs.Common.{◌-◌, length}
use Rattle.graph.specs.Meaning.{maps_of}
use Rattle.cover.specs.Checked.{HaveSomeAddresses}
use Rattle.cover.proofs.alike.have_addresses.Given as goal

abbrev pub invariant-loop-at : goal.invariant-loop-at
invariant-loop-at l = HaveSomeAddresses (maps_of l.narrow) l.ones l.others l.at

abbrev pub decreases-loop-at : goal.decreases-loop-at
decreases-loop-at l = length l.others - l.at
