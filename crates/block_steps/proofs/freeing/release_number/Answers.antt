use Rattle.block_steps.proofs.ReleaseReady.{null_ready}
use Rattle.block_steps.proofs.freeing.release_number.Goals as goal

pub with_fault-requires : goal.with_fault-requires
with_fault-requires c = record {
  graph = null_ready c.args.graph.now c.in-Ok.null c.in-Ok-without_registers.after c.args.gone.now c.args.key c.requires.graph c.requires.number c.in-Ok.ensures c.in-Ok-without_registers.ensures;
}
