use Rattle.std.proofs.Common.{◌≡◌, length}
use Rattle.graph.specs.Meaning.{maps_of}
use Rattle.cover.specs.Quick.{are_met}
use Rattle.cover.proofs.quick.are_met.Given as goal

abbrev pub invariant-loop-left : goal.invariant-loop-left
invariant-loop-left l = are_met (maps_of l.wide) (maps_of l.narrow) l.other l.edges ≡ are_met (maps_of l.wide) (maps_of l.narrow) l.other l.left

abbrev pub decreases-loop-left : goal.decreases-loop-left
decreases-loop-left l = length l.left
