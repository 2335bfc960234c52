use Rattle.std.proofs.Common.{rules, refl}
use Rattle.driver.proofs.Looked.{beyond_now}
use Rattle.driver.proofs.adding.look.Goals as goal

pub returns-then-work-limits : goal.returns-then-work-limits
returns-then-work-limits c = beyond_now c.args.flow.now c.args.limits.now c.args.work.now _ c.args.point c.args.cause c.args.graph c.requires.booked (search rules) (search rules) (search rules) refl
