use Rattle.std.proofs.Common.{rules}
use Rattle.driver.proofs.Rested.{resting_skip}
use Rattle.driver.proofs.resting.tell_entry.Goals as goal

pub returns-then-not-is_kept : goal.returns-then-not-is_kept
returns-then-not-is_kept c = resting_skip c.args.flow.now c.args.limits.now c.args.work.now c.args.at c.args.which c.requires.so_far (search rules)
