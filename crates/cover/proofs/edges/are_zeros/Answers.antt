use Rattle.std.proofs.Common.{rules}
use Rattle.cover.proofs.Zeros.{zeros_all}
use Rattle.cover.proofs.edges.are_zeros.Goals as goal

pub returns : goal.returns
returns c = zeros_all c.all_at_most.result c.args.size c.args.at c.args.plane.now (search rules) c.all_at_most.ensures
