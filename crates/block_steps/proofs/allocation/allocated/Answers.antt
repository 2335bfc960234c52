use Rattle.block_steps.proofs.Ready.{allocated_ready}
use Rattle.block_steps.proofs.allocation.allocated.Goals as goal

pub with_graph-requires : goal.with_graph-requires
with_graph-requires c = record {
  graph = allocated_ready c.args.size c.args.zeroed c.args.into c.args.graph.now c.in_ok-parts.parts c.in_ok-grown.grown c.in_ok-valued.valued c.in_ok-after.after c.object_count-object.result c.value_count-key.result
      c.object_count-object.ensures.graph c.requires.size c.requires.room c.object_count-object.ensures.count c.value_count-key.ensures.count c.in_ok-parts.ensures.ok c.in_ok-grown.ensures c.in_ok-valued.ensures c.in_ok-after.ensures;
}
