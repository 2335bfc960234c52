use Rattle.std.proofs.Common.{sym, ◌∙◌, ap, subst}
use Rattle.graph.specs.declared.parts.Parts.{Parts}
use Rattle.graph.specs.Meaning.{StandsFor}
use Rattle.graph.specs.Renaming.{numbered}
use Rattle.graph.specs.WellFormed.{HasAscendingKeys}
use Rattle.fold.proofs.Case.{folded_ascends}
use Rattle.fold.proofs.Holds.{folded_means}
use Rattle.fold.proofs.applying.apply.Goals as goal

pub built-requires-clause-ascending : goal.built-requires-clause-ascending
built-requires-clause-ascending c = subst (λ (p : Parts). HasAscendingKeys p) (sym c.in-Ok.ensures.ok) (folded_ascends c.args.graph.now c.in-Ok.ensures.graph c.args.fold.now c.requires.neighbours)

pub returns-in-Ok-built-clause-means : goal.returns-in-Ok-built-clause-means
returns-in-Ok-built-clause-means c state stands =
    subst (λ (p : Parts). StandsFor p state) (sym (c.in-Ok-built.ensures.ok ∙ ap numbered c.in-Ok.ensures.ok))
    (folded_means c.args.graph.now c.in-Ok.ensures.graph c.args.fold.now c.requires c.in-Ok.ensures.offsets state stands)
