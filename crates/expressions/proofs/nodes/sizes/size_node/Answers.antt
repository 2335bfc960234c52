-- What a context answers of a size is what is found at `sizeof`, behind what is found of the type.
use Rattle.std.proofs.Common.{ap, ◌∙◌, subst}
use Rattle.cbase.specs.declared.measure.Extent.{Extent}
use Rattle.typing.specs.Known.{valued}
use Rattle.typing.specs.Nodes.{size_faults, size_told}
use Rattle.expressions.specs.Settled.{IsFirstOf}
use Rattle.expressions.proofs.Growth.{agrees_before_types}
use Rattle.expressions.proofs.Judging.{each_settled}
use Rattle.expressions.proofs.nodes.sizes.size_node.Goals as goal

pub returns-in-Ok : goal.returns-in-Ok
returns-in-Ok c = λ abi.
    each_settled c.settle.result _ _ c.first_of-broken.result c.valued-known.result _ _ _ _ c.in-Ok.ensures.only_types
    (λ n agrees. c.first_of-broken.ensures _ _ c.all_at.ensures
    (subst (λ (size : Extent). IsFirstOf (size_faults c.args.node.place size) c.size_fault.result)
    (c.size-size.ensures n abi (agrees_before_types _ _ n c.in-Ok.ensures.only_types agrees)) c.size_fault.ensures))
    (λ n agrees.
    let told = c.size_told.ensures ∙ ap size_told (c.size-size.ensures n abi (agrees_before_types _ _ n c.in-Ok.ensures.only_types agrees)) in
    c.valued-known.ensures.is n ∙ (λ i. valued (told i) (c.in-Ok.ensures.meant n agrees i)))
    c.settle.ensures
