use Rattle.std.proofs.Common.{◌∙◌, ap, sym}
use Rattle.typing.specs.environment.Environment.{definition_of_linked}
use Rattle.typing.proofs.environment.Tables.{change_put}
use Rattle.typing.proofs.environment.environment.Environment.set_definition.Goals as goal

pub returns-in-Some : goal.returns-in-Some
returns-in-Some c =
    let has = sym c.in-Some.is ∙ c.get.ensures in
    ap (λ linked. record c.args.self.now { linked = linked }) (c.change.ensures ∙ change_put c.args.name.now c.in-Some.meaning _ c.args.self.now.linked has)
    ∙ ap (λ linked. definition_of_linked c.args.name.now c.args.definition linked c.args.self.now) has
