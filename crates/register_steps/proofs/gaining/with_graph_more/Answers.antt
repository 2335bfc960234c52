use Rattle.std.proofs.Common.{[], ◌∷◌, ◌++◌, refl, ◌∙◌, ap}
use Rattle.graph.specs.declared.parts.Parts.{Parts}
use Rattle.changes.proofs.Built.{built_same}
use Rattle.register_steps.proofs.gaining.with_graph_more.Goals as goal

pub returns-in-Ok-push : goal.returns-in-Ok-push
returns-in-Ok-push c = record {
  graphs = c.in-Ok-push.ensures.ok ∙ ap (λ (graph : Parts). c.args.post.graphs ++ graph ∷ []) (built_same c.args.parts c.in-Ok.graph c.requires.graph c.in-Ok.ensures.ok);
  kinds = refl;
  loss = refl;
}
