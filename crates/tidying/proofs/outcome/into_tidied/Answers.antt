use Rattle.std.proofs.Common.{◌≡◌, sym, subst, ◌∙◌, ap}
use Rattle.std.specs.Prelude.{◌↔◌}
use Rattle.graph.specs.declared.parts.Parts.{Parts}
use Rattle.graph.specs.Meaning.{StandsFor}
use Rattle.graph.specs.State.{State}
use Rattle.tidying.specs.Tidied.{tidied}
use Rattle.tidying.proofs.Answered.{if_ok}
use Rattle.tidying.proofs.Kept.{tidied_means}
use Rattle.tidying.proofs.outcome.into_tidied.Goals as goal

pub returns-in-Ok-clause-ok : goal.returns-in-Ok-clause-ok
returns-in-Ok-clause-ok c =
    if_ok (λ after. after ≡ tidied c.in-Ok.parts) (λ after. after ≡ tidied c.args.graph) (λ after is. is ∙ ap tidied c.in-Ok.ensures.ok)
    c.tidied_parts.result c.tidied_parts.ensures

pub returns-in-Ok-clause-means : goal.returns-in-Ok-clause-means
returns-in-Ok-clause-means c =
    if_ok (λ after. after ≡ tidied c.in-Ok.parts) (λ after. (state : State) → (StandsFor after state ↔ StandsFor c.args.graph state))
    (λ after is state. subst (λ (p : Parts). StandsFor p state ↔ StandsFor c.args.graph state) (sym (is ∙ ap tidied c.in-Ok.ensures.ok)) (tidied_means c.args.graph c.in-Ok.ensures.graph state))
    c.tidied_parts.result c.tidied_parts.ensures
