use Rattle.std.proofs.Common.{take, drop}
use Rattle.reinterpret.proofs.Classes.{low_or_not}
use Rattle.reinterpret.proofs.reads.is_low.Goals as goal

pub returns : goal.returns
returns c = low_or_not c.all_at_most.result (take c.args.size (drop c.args.from c.args.plane.now)) c.all_at_most.ensures
