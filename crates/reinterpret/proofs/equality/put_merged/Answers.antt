use Rattle.std.proofs.Common.{subst, sym}
use Rattle.graph.specs.Whole.{IsGraph}
use Rattle.changes.proofs.MergedGraph.{graph_merged}
use Rattle.reinterpret.proofs.equality.put_merged.Goals as goal

pub put-requires : goal.put-requires
put-requires c = record { graph = subst IsGraph (sym c.in-Ok.ensures) (graph_merged c.args.graph.now c.requires.graph c.args.kept c.args.other c.requires.merge) }
