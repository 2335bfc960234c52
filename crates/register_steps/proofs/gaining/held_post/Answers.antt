use Rattle.std.proofs.Common.{sym, ap, ◌∙◌, subst}
use Rattle.graph.specs.Whole.{IsGraph}
use Rattle.register_steps.specs.Gaining.{gained}
use Rattle.register_steps.proofs.Gained.{graph_held}
use Rattle.register_steps.proofs.gaining.held_post.Goals as goal

pub with_graph-requires : goal.with_graph-requires
with_graph-requires c = record {
  graph = subst IsGraph (sym (c.in-Ok-gained.ensures ∙ ap (gained c.args.gone.now c.args.into c.args.key) c.in-Ok.ensures.ok))
      (graph_held c.args.graph.now c.requires.graph c.args.gone.now c.args.into c.args.key c.requires.may);
}
