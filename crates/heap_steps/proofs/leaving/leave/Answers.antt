use Rattle.heap_steps.proofs.LeaveMeans.{leave_means}
use Rattle.heap_steps.proofs.LeftRegions.{leave_regions}
use Rattle.heap_steps.proofs.leaving.leave.Goals as goal

pub returns-in-Ok-clause-means : goal.returns-in-Ok-clause-means
returns-in-Ok-clause-means c = leave_means c.args.which.now c.args.graph.now c.in-Ok.post c.in-Ok.ensures.graph c.requires.may c.in-Ok.ensures.post

pub returns-in-Ok-clause-regions : goal.returns-in-Ok-clause-regions
returns-in-Ok-clause-regions c = leave_regions c.args.which.now c.args.graph.now c.in-Ok.post c.in-Ok.ensures.graph c.requires.may c.in-Ok.ensures.post
