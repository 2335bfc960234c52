use Rattle.std.proofs.Common.{sym, subst}
use Rattle.graph.specs.declared.parts.Parts.{Parts}
use Rattle.graph.specs.WellFormed.{HasAscendingKeys, IsWellFormed}
use Rattle.materialise.proofs.SplitCases.{split_form, split_ascending}
use Rattle.materialise.proofs.cases.split_graph.Goals as goal

pub built-requires-clause-ascending : goal.built-requires-clause-ascending
built-requires-clause-ascending c = subst (λ (p : Parts). HasAscendingKeys p) (sym c.in-Ok.ensures.ok) (split_ascending c.args.graph.now c.in-Ok.ensures.graph c.args.key c.requires.segment c.requires.room)

pub built-requires-clause-well_formed : goal.built-requires-clause-well_formed
built-requires-clause-well_formed c = subst (λ (p : Parts). IsWellFormed p) (sym c.in-Ok.ensures.ok) (split_form c.args.graph.now c.in-Ok.ensures.graph c.args.key c.requires.segment c.requires.room)
