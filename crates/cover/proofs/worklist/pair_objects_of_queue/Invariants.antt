use Rattle.std.proofs.Common.{◌-◌, length}
use Rattle.graph.specs.Meaning.{maps_of}
use Rattle.cover.specs.Found.{FollowsSome}
use Rattle.cover.proofs.worklist.pair_objects_of_queue.Given as goal

abbrev pub invariant-loop-at : goal.invariant-loop-at
invariant-loop-at l = FollowsSome (maps_of l.wide) (maps_of l.narrow) l.fn.found l.found l.at

abbrev pub decreases-loop-at : goal.decreases-loop-at
decreases-loop-at l = length l.found.objects.items - l.at
