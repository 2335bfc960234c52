use Rattle.range_steps.proofs.CopyListed.{copy_listed}
use Rattle.range_steps.proofs.CopyMeans.{copy_means}
use Rattle.range_steps.proofs.copies.copy.Goals as goal

pub returns-in-Ok-clause-means : goal.returns-in-Ok-clause-means
returns-in-Ok-clause-means c =
    copy_means c.args.graph.now c.args.to c.args.from c.args.length c.args.disjoint c.in-Ok.post c.registers-registers.ensures.graph c.requires.target c.requires.source c.in-Ok.ensures

pub returns-in-Ok-clause-listed : goal.returns-in-Ok-clause-listed
returns-in-Ok-clause-listed c =
    copy_listed c.args.graph.now c.args.to c.args.from c.args.length c.args.disjoint c.in-Ok.post c.registers-registers.ensures.graph c.requires.target c.requires.source c.in-Ok.ensures
