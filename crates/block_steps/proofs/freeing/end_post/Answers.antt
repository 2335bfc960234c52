use Rattle.block_steps.proofs.ReleaseReady.{dead_ready}
use Rattle.block_steps.proofs.freeing.end_post.Goals as goal

pub with_graph-requires : goal.with_graph-requires
with_graph-requires c = record {
  graph = dead_ready c.args.graph.now c.in-Ok.parts c.in-Ok-with_dead.dead c.in-Ok-without_registers.after c.args.gone.now c.args.key c.in-Ok.ensures.graph c.requires.there c.in-Ok.ensures.ok c.in-Ok-with_dead.ensures c.in-Ok-without_registers.ensures;
}
