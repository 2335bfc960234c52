use Rattle.std.proofs.Common.{◌∙◌, ap}
use Rattle.std.specs.Prelude.{option_map, reverse}
use Rattle.typing.specs.environment.Scopes.{found_here}
use Rattle.typing.specs.environment.Kept.{scopes_of}
use Rattle.typing.proofs.environment.KeptRight.{here-kept}
use Rattle.typing.proofs.environment.scopes.Scopes.look_up_here.Goals as goal

pub returns : goal.returns
returns g c =
    c.meaning_of.ensures
    ∙ (ap (option_map (λ kept. kept.meaning)) c.kept_here.ensures
    ∙ (here-kept c.args.name.now (reverse c.deref.result.now)
    ∙ (ap (λ levels. found_here c.args.name.now (scopes_of (reverse levels))) c.deref.ensures.value
    ∙ ap (found_here c.args.name.now) c.self.view_is)))
