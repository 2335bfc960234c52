use Rattle.driver.proofs.Closing.{from_earlier}
use Rattle.driver.proofs.analysis.told.Goals as goal

pub chained-requires : goal.chained-requires
chained-requires c = record { earlier = from_earlier c.args.flow.now c.args.limits.now.int_limit c.args.trail.now c.requires.honest }
