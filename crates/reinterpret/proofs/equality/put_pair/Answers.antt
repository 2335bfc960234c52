use Rattle.std.proofs.Common.{subst, sym, ◌∙◌, ap}
use Rattle.graph.specs.Whole.{IsGraph}
use Rattle.changes.specs.Merging.{with_unequal}
use Rattle.reinterpret.proofs.PairGraph.{graph_unequal}
use Rattle.reinterpret.proofs.equality.put_pair.Goals as goal

pub put-requires : goal.put-requires
put-requires c = record {
  graph = subst IsGraph (sym (c.in-Ok-with_unequal.ensures ∙ ap (with_unequal c.args.pair.left c.args.pair.right) c.in-Ok.ensures.ok))
      (graph_unequal c.args.graph.now c.args.pair.left c.args.pair.right c.requires.graph c.requires.few c.requires.pair c.requires.fresh);
}
