use Rattle.range_steps.proofs.CopyReady.{copied_ready}
use Rattle.range_steps.proofs.copies.copy_room.Goals as goal

pub with_graph-requires : goal.with_graph-requires
with_graph-requires c = record {
  graph = copied_ready c.args.graph.now c.in-Ok-copied_parts.copied c.args.key c.args.from c.args.other c.args.at c.args.count c.requires.source c.requires.target c.in-Ok-copied_parts.ensures
      c.in-Ok-without_registers.after c.args.gone.now c.requires.graph c.in-Ok-without_registers.ensures;
}
