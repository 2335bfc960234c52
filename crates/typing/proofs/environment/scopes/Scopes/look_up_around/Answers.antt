use Rattle.std.proofs.Common.{◌∙◌, ap}
use Rattle.std.specs.Prelude.{option_map, reverse}
use Rattle.typing.specs.environment.Scopes.{found_here, left}
use Rattle.typing.specs.environment.Kept.{scopes_of}
use Rattle.typing.proofs.environment.KeptRight.{around-kept}
use Rattle.typing.proofs.environment.scopes.Scopes.look_up_around.Goals as goal

pub returns : goal.returns
returns g c =
    c.meaning_of.ensures
    ∙ (ap (option_map (λ kept. kept.meaning)) c.kept_around.ensures
    ∙ (around-kept c.args.name.now (reverse c.deref.result.now)
    ∙ (ap (λ levels. found_here c.args.name.now (left (scopes_of (reverse levels)))) c.deref.ensures.value
    ∙ ap (λ scopes. found_here c.args.name.now (left scopes)) c.self.view_is)))
