use Rattle.transfer.proofs.EndMeans.{none_empty, some_empty, ended_whole, means_whole, ended_perhaps, means_perhaps}
use Rattle.transfer.proofs.ending.end.Goals as goal

pub close-requires : goal.close-requires
close-requires c = record { segments = none_empty c.args.graph.now c.some_may_be_empty-some.result c.some_may_be_empty-some.ensures c.if-some.false }

pub returns-clause-post : goal.returns-clause-post
returns-clause-post c = ended_whole c.args.graph.now c.close.result (none_empty c.args.graph.now c.some_may_be_empty-some.result c.some_may_be_empty-some.ensures c.if-some.false) c.close.ensures.post

pub returns-clause-means : goal.returns-clause-means
returns-clause-means c = means_whole c.args.graph.now c.close.result c.close.ensures.post c.close.ensures.means

pub returns-then-some-clause-post : goal.returns-then-some-clause-post
returns-then-some-clause-post c = ended_perhaps c.args.graph.now c.perhaps_end.result (some_empty c.args.graph.now c.some_may_be_empty-some.result c.some_may_be_empty-some.ensures c.if-some.true).1 c.perhaps_end.ensures.post

pub returns-then-some-clause-means : goal.returns-then-some-clause-means
returns-then-some-clause-means c = means_perhaps c.args.graph.now c.object_count.ensures.graph (some_empty c.args.graph.now c.some_may_be_empty-some.result c.some_may_be_empty-some.ensures c.if-some.true).0 c.perhaps_end.result c.perhaps_end.ensures.post
