use Rattle.std.proofs.Common.{rules}
use Rattle.driver.proofs.Looked.{made_there}
use Rattle.driver.proofs.widening.made.Goals as goal

pub returns-else-not-is_small : goal.returns-else-not-is_small
returns-else-not-is_small c = made_there c.args.flow.now c.args.limit c.args.point c.args.graph.now c.in-Ok.after c.args.change c.requires.placed c.in-Ok.ensures.makes c.in-Ok.ensures.holds
    (search rules) (search rules)
