use Rattle.block_steps.proofs.ReleaseReady.{valued_ready}
use Rattle.block_steps.proofs.freeing.null_parts.Goals as goal

pub graph_of_parts-requires : goal.graph_of_parts-requires
graph_of_parts-requires c = record { graph = valued_ready c.args.graph.now c.in_ok-parts.parts c.in_ok-valued.valued c.in_ok-parts.ensures.graph c.in_ok-parts.ensures.ok c.in_ok-valued.ensures }
