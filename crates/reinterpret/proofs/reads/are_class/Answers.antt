use Rattle.std.proofs.Common.{take, drop}
use Rattle.reinterpret.proofs.Classes.{all_or_not}
use Rattle.reinterpret.proofs.reads.are_class.Goals as goal

pub returns : goal.returns
returns c = all_or_not c.all_are.result c.args.class (take c.args.size (drop c.args.from c.args.plane.now)) c.all_are.ensures
