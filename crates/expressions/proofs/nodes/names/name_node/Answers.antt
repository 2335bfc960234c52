-- What stands for no value is one thing alone.
use Rattle.std.proofs.Common.{[], ◌∷◌, Option, Some, option_map, sym, ap, ◌∙◌}
use Rattle.typing.specs.declared.environment.entity.Entity.{Entity}
use Rattle.typing.specs.declared.fault.Fault.{Fault}
use Rattle.expressions.specs.Names.{name_faults}
use Rattle.expressions.specs.Numbers.{entity_at}
use Rattle.expressions.proofs.Firsts.{first_alone}
use Rattle.expressions.proofs.Judging.{refused_here}
use Rattle.expressions.proofs.nodes.names.name_node.Goals as goal

pub returns-in-None : goal.returns-in-None
returns-in-None c =
    refused_here _ _ _ (λ n. first_alone _ _
    (ap (λ (entity : Option Entity). name_faults c.args.context.now.structs c.args.node.place (option_map (entity_at n) entity)) (sym c.look_up.ensures.is ∙ c.in-None.is)
    ∙ ap (λ (f : Fault). f ∷ []) (sym c.no_value.ensures)))

pub returns-in-Some-Typedef : goal.returns-in-Some-Typedef
returns-in-Some-Typedef c =
    refused_here _ _ _ (λ n. first_alone _ _
    (ap (λ (entity : Option Entity). name_faults c.args.context.now.structs c.args.node.place (option_map (entity_at n) entity)) (sym c.look_up.ensures.is ∙ c.in-Some-Typedef.is ∙ ap Some c.in-Some-Typedef.field-0-is)
    ∙ ap (λ (f : Fault). f ∷ []) (sym c.no_value-in-Some-Typedef.ensures)))
