use Rattle.std.proofs.Common.{take, drop}
use Rattle.fold.proofs.Bytes.{all_or_not}
use Rattle.fold.proofs.links.are_zero.Goals as goal

pub returns : goal.returns
returns c = all_or_not c.all_are.result 0 (take 8 (drop c.args.at c.args.plane.now)) c.all_are.ensures
