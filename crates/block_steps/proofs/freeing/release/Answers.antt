use Rattle.block_steps.proofs.ReleaseListed.{release_listed}
use Rattle.block_steps.proofs.ReleaseMeans.{release_means}
use Rattle.block_steps.proofs.ReleaseRegions.{release_regions}
use Rattle.block_steps.proofs.freeing.release.Goals as goal

pub returns-in-Ok-clause-means : goal.returns-in-Ok-clause-means
returns-in-Ok-clause-means c = release_means c.args.graph.now c.args.at c.in-Ok.post c.registers-registers.ensures.graph c.requires.address c.in-Ok.ensures

pub returns-in-Ok-clause-regions : goal.returns-in-Ok-clause-regions
returns-in-Ok-clause-regions c = release_regions c.args.graph.now c.args.at c.in-Ok.post c.registers-registers.ensures.graph c.requires.address c.in-Ok.ensures

pub returns-in-Ok-clause-listed : goal.returns-in-Ok-clause-listed
returns-in-Ok-clause-listed c = release_listed c.args.graph.now c.args.at c.in-Ok.post c.registers-registers.ensures.graph c.requires.address c.in-Ok.ensures
