use Rattle.std.proofs.Common.{sym, ◌∙◌, length}
use Rattle.block_steps.proofs.EnterMeans.{enter_means}
use Rattle.block_steps.proofs.TooMany.{large_or_many}
use Rattle.block_steps.proofs.entering.enter.Goals as goal

pub returns-in-Ok-clause-means : goal.returns-in-Ok-clause-means
returns-in-Ok-clause-means c =
    enter_means c.args.which.now c.args.sizes.now c.args.graph.now c.in-Ok.post c.object_count.ensures.graph c.requires.may (sym c.has_room-room.ensures ∙ c.if-not-room.false) c.in-Ok.ensures

pub returns-then-not-room-clause-many : goal.returns-then-not-room-clause-many
returns-then-not-room-clause-many c = λ is all. large_or_many c.args.graph.now (length c.args.which.now) c.object_count.ensures.graph all (sym c.has_room-room.ensures ∙ c.if-not-room.true)
