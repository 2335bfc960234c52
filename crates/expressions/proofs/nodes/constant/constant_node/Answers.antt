-- What fits no type is one thing alone, and so is what is no constant.
use Rattle.std.proofs.Common.{inl, inr, None, Some, refl, ap, ◌∙◌}
use Rattle.std.proofs.lemmas.Result.{IfOk-weaker}
use Rattle.typing.specs.declared.constants.meaning.Meaning.TheVariants.{NoConstant, FitsNoType, Known as KnownConstant}
use Rattle.typing.specs.Known.{valued}
use Rattle.expressions.specs.Constants.{constant_faults, constant_told}
use Rattle.expressions.specs.Settled.{Settled}
use Rattle.expressions.proofs.Firsts.{first_alone}
use Rattle.expressions.proofs.Judging.{each_settled, refused_here}
use Rattle.expressions.proofs.nodes.constant.constant_node.Goals as goal

pub returns-in-NoConstant : goal.returns-in-NoConstant
returns-in-NoConstant c = elim c.in-NoConstant.is [
  | inl none ↦ (NoConstant, (c.read_constant.ensures.exact NoConstant).0 none, refused_here _ _ _ (λ n. first_alone _ _ refl))
  | inr none ↦ (FitsNoType, (c.read_constant.ensures.exact FitsNoType).0 none, refused_here _ _ _ (λ n. first_alone _ _ refl))
]

pub returns-in-Ok : goal.returns-in-Ok
returns-in-Ok c =
    IfOk-weaker c.pass.result (λ found. Settled (λ n. constant_faults c.args.node.place (KnownConstant c.in-Known.constant)) (λ n. constant_told (KnownConstant c.in-Known.constant)) c.args.node.number c.args.context.now c.pass.new.context found) _
    (λ found settled. (KnownConstant c.in-Known.constant, (c.read_constant.ensures.exact (KnownConstant c.in-Known.constant)).0 c.in-Known.is, settled))
    (each_settled c.pass.result (λ n. constant_faults c.args.node.place (KnownConstant c.in-Known.constant)) (λ n. constant_told (KnownConstant c.in-Known.constant)) None c.valued-known.result c.args.node.number _ _ _ c.in-Ok.ensures.only_types
    (λ n agrees. refl) (λ n agrees. c.valued-known.ensures.is n ∙ ap (valued (Some c.in-Known.constant.bits)) (c.in-Ok.ensures.meant n agrees)) c.pass.ensures)
