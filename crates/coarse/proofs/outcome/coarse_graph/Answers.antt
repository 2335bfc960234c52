use Rattle.std.proofs.Common.{Err, ap, sym, subst, ◌∙◌}
use Rattle.std.proofs.lemmas.Bool.{false≢true}
use Rattle.graph.specs.declared.parts.Parts.{Parts}
use Rattle.graph.specs.Renaming.{numbered}
use Rattle.graph.specs.WellFormed.{HasAscendingKeys, IsWellFormed, is_within_limits}
use Rattle.graph.proofs.OwnPlaces.{graph_numbered}
use Rattle.coarse.specs.Coarsened.{coarsened}
use Rattle.coarse.proofs.Form.{graph_left}
use Rattle.coarse.proofs.outcome.coarse_graph.Goals as goal

pub built-requires-clause-ascending : goal.built-requires-clause-ascending
built-requires-clause-ascending c = subst (λ (p : Parts). HasAscendingKeys p) (sym c.in-Ok.ensures) (graph_left c.args.limit c.args.parts c.requires).ascending

pub built-requires-clause-well_formed : goal.built-requires-clause-well_formed
built-requires-clause-well_formed c = subst (λ (p : Parts). IsWellFormed p) (sym c.in-Ok.ensures) (graph_left c.args.limit c.args.parts c.requires).well_formed

pub returns-in-Ok-built : goal.returns-in-Ok-built
returns-in-Ok-built c = c.in-Ok-built.ensures.ok ∙ ap numbered c.in-Ok.ensures ∙ graph_numbered (coarsened c.args.limit c.args.parts) (graph_left c.args.limit c.args.parts c.requires)

pub unreachable-requires : goal.unreachable-requires
unreachable-requires c =
    false≢true
    (sym (c.built.ensures.large.0 (c.in-Err-Large.is ∙ ap Err c.in-Err-Large.field-0-is)) ∙ ap is_within_limits c.in-Ok.ensures ∙ c.requires.within_limits)
