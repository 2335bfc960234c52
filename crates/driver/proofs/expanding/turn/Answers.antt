use Rattle.std.proofs.Common.{rules}
use Rattle.driver.proofs.Followed.{worked_skip}
use Rattle.driver.proofs.expanding.turn.Goals as goal

pub returns-then-not-is_kept : goal.returns-then-not-is_kept
returns-then-not-is_kept c = worked_skip c.args.flow.now c.args.limits.now c.args.work.now c.args.at c.requires.so_far c.requires.within (search rules)
