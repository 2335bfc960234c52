use Rattle.reinterpret.proofs.Ready.{written_ready}
use Rattle.reinterpret.proofs.writes.write_room.Goals as goal

pub with_graph-requires : goal.with_graph-requires
with_graph-requires c = record {
  graph = written_ready c.args.graph.now c.in-Ok.parts c.in-Ok-write_object.written c.in-Ok-without_registers.after c.args.gone.now c.args.key c.args.edge c.args.value c.requires.graph c.requires.room c.requires.value
      c.in-Ok.ensures.ok c.in-Ok-write_object.ensures c.in-Ok-without_registers.ensures;
}
