use Rattle.std.proofs.Common.{◌≡◌, true, ap, sym, subst, ◌∙◌}
use Rattle.graph.specs.declared.parts.Parts.{Parts}
use Rattle.graph.specs.Meaning.{StandsFor}
use Rattle.graph.specs.State.{State}
use Rattle.tidying.specs.Fits.{FitsAs}
use Rattle.coarse.specs.Coarsened.{coarsened, is_coarse}
use Rattle.coarse.proofs.Answered.{if_ok}
use Rattle.coarse.proofs.Fits.{fits_left}
use Rattle.coarse.proofs.Means.{left_stands}
use Rattle.coarse.proofs.Settled.{settled}
use Rattle.coarse.proofs.outcome.coarse.Goals as goal

pub returns-in-Ok-clause-means : goal.returns-in-Ok-clause-means
returns-in-Ok-clause-means c =
    if_ok (λ after. after ≡ coarsened c.args.limit c.in-Ok.parts) (λ after. (state : State) → StandsFor c.args.graph.now state → StandsFor after state)
    (λ after is state stands. subst (λ (p : Parts). StandsFor p state) (sym (is ∙ ap (coarsened c.args.limit) c.in-Ok.ensures.ok)) (left_stands c.args.limit c.args.graph.now c.in-Ok.ensures.graph state stands))
    c.coarse_graph.result c.coarse_graph.ensures

pub returns-in-Ok-clause-holds : goal.returns-in-Ok-clause-holds
returns-in-Ok-clause-holds c =
    if_ok (λ after. after ≡ coarsened c.args.limit c.in-Ok.parts) (λ after. FitsAs c.args.graph.now after)
    (λ after is. subst (λ (p : Parts). FitsAs c.args.graph.now p) (sym (is ∙ ap (coarsened c.args.limit) c.in-Ok.ensures.ok)) (fits_left c.args.limit c.args.graph.now))
    c.coarse_graph.result c.coarse_graph.ensures

pub returns-in-Ok-clause-settled : goal.returns-in-Ok-clause-settled
returns-in-Ok-clause-settled c =
    if_ok (λ after. after ≡ coarsened c.args.limit c.in-Ok.parts) (λ after. is_coarse c.args.limit after ≡ true)
    (λ after is. ap (is_coarse c.args.limit) is ∙ settled c.args.limit c.in-Ok.parts)
    c.coarse_graph.result c.coarse_graph.ensures
