use Rattle.std.proofs.Common.{rules, refl}
use Rattle.driver.proofs.Booked.{unkept_there}
use Rattle.driver.proofs.adding.add_unkept.Goals as goal

pub returns : goal.returns
returns c = unkept_there c.args.budget c.args.work.now _ c.args.point c.live_count.result c.args.cause c.args.graph (search rules) c.requires.booked (search rules) refl refl (search rules) (search rules)
    (search rules) refl refl refl
