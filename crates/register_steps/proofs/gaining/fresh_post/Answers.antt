use Rattle.std.proofs.Common.{sym, subst}
use Rattle.graph.specs.Whole.{IsGraph}
use Rattle.register_steps.proofs.Gained.{graph_fresh}
use Rattle.register_steps.proofs.gaining.fresh_post.Goals as goal

pub with_graph-requires : goal.with_graph-requires
with_graph-requires c = record { graph = subst IsGraph (sym c.in-Ok.ensures) (graph_fresh c.args.graph.now c.requires.graph c.args.gone.now c.args.into c.args.value c.requires.may) }
