use Rattle.transfer.proofs.StartReady.{started, started_regions}
use Rattle.transfer.proofs.starting.start.Goals as goal

pub returns-in-Ok-clause-fits : goal.returns-in-Ok-clause-fits
returns-in-Ok-clause-fits c = started c.args.flow.now c.begun.result c.requires.flow c.begun.ensures.start

pub returns-in-Ok-clause-regions : goal.returns-in-Ok-clause-regions
returns-in-Ok-clause-regions c = started_regions c.args.flow.now c.begun.result c.requires.flow c.begun.ensures.start
