use Rattle.range_steps.proofs.FillMeans.{fill_means}
use Rattle.range_steps.proofs.FillMet.{fill_listed}
use Rattle.range_steps.proofs.fills.fill.Goals as goal

pub returns-in-Ok-clause-means : goal.returns-in-Ok-clause-means
returns-in-Ok-clause-means c = fill_means c.args.graph.now c.args.at c.args.from c.args.length c.in-Ok.post c.registers-registers.ensures.graph c.requires.address c.requires.value c.in-Ok.ensures

pub returns-in-Ok-clause-listed : goal.returns-in-Ok-clause-listed
returns-in-Ok-clause-listed c = fill_listed c.args.graph.now c.args.at c.args.from c.args.length c.in-Ok.post c.registers-registers.ensures.graph c.requires.address c.requires.value c.in-Ok.ensures
