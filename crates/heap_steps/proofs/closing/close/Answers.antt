use Rattle.heap_steps.proofs.Closed.{close_means}
use Rattle.heap_steps.proofs.closing.close.Goals as goal

pub returns-in-Ok-clause-means : goal.returns-in-Ok-clause-means
returns-in-Ok-clause-means c = close_means c.args.graph.now c.in-Ok.ensures.graph c.in-Ok.post c.requires.segments c.in-Ok.ensures.post
