use Rattle.std.proofs.Common.{length}
use Rattle.block_steps.proofs.Ready.{objects_few, entered_ready}
use Rattle.block_steps.proofs.entering.entered.Goals as goal

pub enter_all-requires-clause-few : goal.enter_all-requires-clause-few
enter_all-requires-clause-few c = objects_few c.args.graph.now c.in_ok-parts.parts (length c.args.which.now) c.requires.room c.in_ok-parts.ensures.ok

pub with_graph-requires : goal.with_graph-requires
with_graph-requires c = record {
  graph = entered_ready c.args.graph.now c.in_ok-parts.parts c.enter_all.new.parts c.args.which.now c.args.sizes.now c.object_count.ensures.graph c.requires.may c.requires.room c.in_ok-parts.ensures.ok c.in-Ok.ensures;
}
