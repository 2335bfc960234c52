use Rattle.std.proofs.Common.{◌+◌, ◌≤◌, arith}
use Rattle.std.specs.List.{sum_by}
use Rattle.graph.specs.WellFormed.{nodes_of}
use Rattle.graph.proofs.Counts.{too_many}
use Rattle.graph.proofs.build.has_few_nodes.Goals as goal

pub returns-then-count : goal.returns-then-count
returns-then-count c =
    let enough : 1073741824 ≤ c.loop-left.count + nodes_of c.first-item.result.object.shape = let added = c.nodes_of.ensures in let most = c.if-count.true in omega arith in
    too_many c.loop-left.left.now c.loop-left.count (sum_by (λ entry. nodes_of entry.object.shape) c.args.objects.now) 1073741824 c.first-item.result _ c.in-len1-up.len_at_least c.first-item.is enough c.loop-left.invariant.0
