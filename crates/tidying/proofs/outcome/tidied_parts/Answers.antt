use Rattle.std.proofs.Common.{Err, sym, subst, ap, ◌∙◌}
use Rattle.std.proofs.lemmas.Bool.{false≢true}
use Rattle.graph.specs.declared.parts.Parts.{Parts}
use Rattle.graph.specs.WellFormed.{HasAscendingKeys, IsWellFormed, is_within_limits}
use Rattle.tidying.proofs.Kept.{kept_ascending, kept_well_formed, kept_within_limits}
use Rattle.tidying.proofs.outcome.tidied_parts.Goals as goal

pub built-requires-clause-ascending : goal.built-requires-clause-ascending
built-requires-clause-ascending c = subst (λ (p : Parts). HasAscendingKeys p) (sym c.in-Ok.ensures) (kept_ascending c.args.parts c.requires)

pub built-requires-clause-well_formed : goal.built-requires-clause-well_formed
built-requires-clause-well_formed c = subst (λ (p : Parts). IsWellFormed p) (sym c.in-Ok.ensures) (kept_well_formed c.args.parts c.requires)

pub unreachable-requires : goal.unreachable-requires
unreachable-requires c =
    false≢true
    (sym (c.built.ensures.large.0 (c.in-Err-Large.is ∙ ap Err c.in-Err-Large.field-0-is)) ∙ ap is_within_limits c.in-Ok.ensures ∙ kept_within_limits c.args.parts c.requires)
