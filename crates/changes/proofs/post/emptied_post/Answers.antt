use Rattle.std.proofs.Common.{sym, ◌∙◌, ap, subst}
use Rattle.graph.specs.Whole.{IsGraph}
use Rattle.changes.specs.Parts.{without_registers}
use Rattle.changes.proofs.RegisterForm.{graph_without}
use Rattle.changes.proofs.post.emptied_post.Goals as goal

pub with_graph-requires : goal.with_graph-requires
with_graph-requires c = record {
  graph = subst IsGraph (sym (c.in-Ok-without_registers.ensures ∙ ap (without_registers c.args.gone.now) c.in-Ok.ensures.ok)) (graph_without c.args.gone.now c.args.graph.now c.in-Ok.ensures.graph);
}
