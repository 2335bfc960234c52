use Rattle.std.proofs.Common.{◌≡◌, length}
use Rattle.graph.specs.Meaning.{maps_of}
use Rattle.cover.specs.Quick.{registers_agree}
use Rattle.cover.proofs.quick.registers_agree.Given as goal

abbrev pub invariant-loop-left : goal.invariant-loop-left
invariant-loop-left l = registers_agree (maps_of l.wide) (maps_of l.narrow) l.ones l.others ≡ registers_agree (maps_of l.wide) (maps_of l.narrow) l.left l.others_left

abbrev pub decreases-loop-left : goal.decreases-loop-left
decreases-loop-left l = length l.left
