-- What a context answers of a cast is what is found there, behind what is found of the type name.
use Rattle.std.proofs.Common.{◌<◌, ℕ, length, sym, ◌∙◌, subst}
use Rattle.typing.specs.ctypes.Broken.{Judgement}
use Rattle.typing.specs.ctypes.Converting.{cast}
use Rattle.typing.specs.ctypes.Kinds.{kind_of, decayed}
use Rattle.typing.specs.Faults.{faults_of}
use Rattle.expressions.specs.Numbers.{operand_at}
use Rattle.expressions.specs.Settled.{IsFirstOf}
use Rattle.expressions.proofs.Growth.{agrees_before_types, below_only_types}
use Rattle.expressions.proofs.Judging.{each_settled}
use Rattle.expressions.proofs.nodes.casting.cast_node.Goals as goal

pub returns-in-Ok : goal.returns-in-Ok
returns-in-Ok c =
    each_settled c.settle.result _ _ c.first_of-broken.result c.cast_known-known.result _ _ _ _ c.in-Ok.ensures.only_types
    (λ n agrees.
    let structs = c.args.context.now.structs in
    c.first_of-broken.ensures _ _ c.all_at.ensures
    (subst (λ (judgement : Judgement). IsFirstOf (faults_of c.args.node.place judgement) c.fault_of.result)
    (c.in-Ok.ensures.judged n agrees ∙ (λ i. cast (kind_of structs (n.ctype c.args.to.ctype)) (n.ctype c.args.to.ctype) (decayed (operand_at n structs (c.operand.ensures i)).kind)
    (c.operand.ensures i).null (c.is_idiom.ensures i))) (c.fault_of.ensures n)))
    (λ n agrees. c.cast_known-known.ensures.is n (agrees_before_types _ _ n c.in-Ok.ensures.only_types agrees))
    c.settle.ensures

pub settle-requires : goal.settle-requires
settle-requires c =
    subst (λ (number : ℕ). number < length c.cast.new.self.types) (sym c.cast_known-known.ensures.ctype) (below_only_types _ _ c.in-Ok.ensures.only_types c.args.to.ctype c.requires.to)
