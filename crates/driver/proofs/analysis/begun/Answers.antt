use Rattle.std.proofs.Common.{rules}
use Rattle.driver.proofs.Closing.{begun_placed, worked_first}
use Rattle.driver.proofs.analysis.begun.Goals as goal

pub returns-in-Ok-true : goal.returns-in-Ok-true
returns-in-Ok-true c = worked_first c.args.flow.now c.args.limits.now c.in_ok-work.work c.add.new.work c.entry_of-point.result c.args.graph c.requires.is
    (begun_placed c.args.flow.now c.entry_of-point.result c.args.graph (search rules) (search rules) c.requires.fits c.entry_of-point.ensures) c.entry_of-point.ensures c.in_ok-work.ensures (search rules)
