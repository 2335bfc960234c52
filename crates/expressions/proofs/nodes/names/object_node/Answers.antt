-- An object whose type can be written down passes, or the first thing that is broken at its name is refused.
use Rattle.std.proofs.Common.{Bool, not, ◌++◌, Some, sym, ap, ◌∙◌, subst}
use Rattle.typing.specs.declared.environment.entity.DeclaredType.{DeclaredType}
use Rattle.typing.specs.declared.environment.entity.DeclaredType.TheVariants.{Whole}
use Rattle.typing.specs.declared.environment.entity.Entity.TheVariants.{Object}
use Rattle.typing.specs.declared.ctypes.found.Broken.TheVariants.{Construct, Rule}
use Rattle.typing.specs.Faults.{unless}
use Rattle.typing.specs.Known.{Known}
use Rattle.expressions.specs.Names.{name_faults, name_told}
use Rattle.expressions.specs.Numbers.{entity_at, is_of_main}
use Rattle.expressions.specs.Settled.{IsFirstOf}
use Rattle.expressions.proofs.Growth.{only_types_same}
use Rattle.expressions.proofs.Judging.{each_settled}
use Rattle.expressions.proofs.nodes.names.object_node.Goals as goal

pub returns-in-Whole : goal.returns-in-Whole
returns-in-Whole c =
    each_settled c.settle.result _ _ c.object_fault-broken.result
    (record c.located.result { stands = Some (Object (Whole c.in-Whole.number) c.args.token c.args.lifetime c.args.defined) }) _ _ _ _ (only_types_same _)
    (λ n agrees.
    subst (λ (ctype : DeclaredType). IsFirstOf (name_faults c.args.context.now.structs c.args.node.place (Some (entity_at n (Object ctype c.args.token c.args.lifetime c.args.defined)))) c.object_fault-broken.result)
    (sym c.in-Whole.is)
    (subst (λ (sized : Bool). IsFirstOf (unless c.args.defined c.args.node.place (Construct 12) ++ (unless sized c.args.node.place (Rule 3) ++ unless (not (is_of_main c.args.lifetime)) c.args.node.place (Rule 12))) c.object_fault-broken.result)
    (c.has_size-sized.ensures n agrees) c.object_fault-broken.ensures))
    (λ n agrees.
    let stands = Some (entity_at n (Object (Whole c.in-Whole.number) c.args.token c.args.lifetime c.args.defined)) in
    ap (λ (k : Known). record k { stands = stands }) (c.located.ensures.is n)
    ∙ ap (λ (ctype : DeclaredType). name_told (Some (entity_at n (Object ctype c.args.token c.args.lifetime c.args.defined)))) (sym c.in-Whole.is))
    c.settle.ensures
