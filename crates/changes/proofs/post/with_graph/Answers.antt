use Rattle.std.proofs.Common.{List, [], ◌∷◌, ◌++◌, refl, ◌∙◌, ap}
use Rattle.graph.specs.declared.parts.Parts.{Parts}
use Rattle.changes.proofs.Built.{built_same}
use Rattle.changes.proofs.post.with_graph.Goals as goal

pub returns-in-Ok-push : goal.returns-in-Ok-push
returns-in-Ok-push c = record {
  graphs = c.in-Ok-push.ensures.ok
      ∙ ap (λ (graphs : List Parts). graphs ++ c.in-Ok.graph ∷ []) c.new-graphs.ensures
      ∙ ap (λ (graph : Parts). graph ∷ []) (built_same c.args.parts c.in-Ok.graph c.requires.graph c.in-Ok.ensures.ok);
  kinds = c.new.ensures;
  loss = refl;
}
