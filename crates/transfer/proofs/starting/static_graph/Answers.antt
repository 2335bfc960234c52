use Rattle.transfer.proofs.StartReady.{static_ready}
use Rattle.transfer.proofs.starting.static_graph.Goals as goal

pub graph_of_parts-requires : goal.graph_of_parts-requires
graph_of_parts-requires c = record { graph = static_ready c.args.flow.now c.in-Ok.parts c.requires.flow c.requires.few c.in-Ok.ensures }
