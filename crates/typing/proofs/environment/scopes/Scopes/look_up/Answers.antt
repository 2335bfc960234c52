use Rattle.std.proofs.Common.{◌∙◌, ap}
use Rattle.typing.specs.environment.Scopes.{found}
use Rattle.typing.proofs.environment.scopes.Scopes.look_up.Goals as goal

pub returns : goal.returns
returns g c = c.shown.ensures ∙ (c.self.invariant.sees c.args.name.now ∙ ap (found c.args.name.now) c.self.view_is)
