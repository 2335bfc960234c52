use Rattle.reinterpret.proofs.ReadReady.{put_ready}
use Rattle.reinterpret.proofs.reads.put.Goals as goal

pub with_graph-requires : goal.with_graph-requires
with_graph-requires c = record {
  graph = put_ready c.args.parts c.in-Ok.emptied c.in-Ok-with_register.after c.args.gone.now c.args.into c.args.key c.requires.graph c.requires.value c.in-Ok.ensures c.in-Ok-with_register.ensures;
}
