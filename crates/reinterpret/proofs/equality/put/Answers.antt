use Rattle.std.proofs.Common.{subst, sym}
use Rattle.graph.specs.Whole.{IsGraph}
use Rattle.changes.proofs.RegisterForm.{graph_without}
use Rattle.reinterpret.proofs.equality.put.Goals as goal

pub with_graph-requires : goal.with_graph-requires
with_graph-requires c = record { graph = subst IsGraph (sym c.in-Ok.ensures) (graph_without c.args.gone.now c.args.parts c.requires.graph) }
