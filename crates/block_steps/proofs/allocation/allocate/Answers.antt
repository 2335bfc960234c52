use Rattle.std.proofs.Common.{sym, ◌∙◌}
use Rattle.block_steps.proofs.AllocateMeans.{allocate_means}
use Rattle.block_steps.proofs.TooMany.{large_one}
use Rattle.block_steps.proofs.allocation.allocate.Goals as goal

pub returns-in-Ok-clause-means : goal.returns-in-Ok-clause-means
returns-in-Ok-clause-means c =
    allocate_means c.args.size c.args.zeroed c.args.into c.args.graph.now c.in-Ok.post c.object_count.ensures.graph c.requires.size (sym c.has_room-room.ensures ∙ c.if-not-room.false) c.in-Ok.ensures

pub returns-then-not-room-clause-many : goal.returns-then-not-room-clause-many
returns-then-not-room-clause-many c = λ is all. large_one c.args.graph.now c.object_count.ensures.graph all (sym c.has_room-room.ensures ∙ c.if-not-room.true)
