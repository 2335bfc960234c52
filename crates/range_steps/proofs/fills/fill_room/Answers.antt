use Rattle.range_steps.proofs.FillReady.{filled_ready}
use Rattle.range_steps.proofs.fills.fill_room.Goals as goal

pub with_graph-requires : goal.with_graph-requires
with_graph-requires c = record {
  graph = filled_ready c.args.graph.now c.in-Ok.parts c.in-Ok-put_range.filled c.args.key c.args.from c.args.length c.class_filled.result c.requires.room c.in-Ok.ensures.ok c.in-Ok-put_range.ensures
      c.in-Ok-without_registers.after c.args.gone.now c.requires.graph c.in-Ok-without_registers.ensures;
}
