use Rattle.std.proofs.Common.{◌≡◌, length}
use Rattle.graph.specs.Meaning.{maps_of}
use Rattle.cover.specs.Quick.{variables_agree}
use Rattle.cover.proofs.quick.variables_agree.Given as goal

abbrev pub invariant-loop-left : goal.invariant-loop-left
invariant-loop-left l = variables_agree (maps_of l.wide) (maps_of l.narrow) l.ones l.others ≡ variables_agree (maps_of l.wide) (maps_of l.narrow) l.left l.others_left

abbrev pub decreases-loop-left : goal.decreases-loop-left
decreases-loop-left l = length l.left
