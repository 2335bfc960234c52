use Rattle.std.proofs.Common.{◌∙◌, ap}
use Rattle.typing.specs.environment.Names.{value_in}
use Rattle.typing.proofs.environment.Tables.{value-map}
use Rattle.typing.proofs.environment.names.Names.get.Goals as goal

pub returns : goal.returns
returns g c =
    c.copied.ensures ∙ (c.get.ensures.value ∙ (value-map (λ v. v.items) c.args.name.now c.self.inside.table.entries ∙ ap (value_in c.args.name.now) c.self.view_is))
