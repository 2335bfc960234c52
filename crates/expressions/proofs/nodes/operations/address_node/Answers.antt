-- What a context answers of `&` is what is found there.
use Rattle.std.proofs.Common.{ap, ◌∙◌}
use Rattle.cbase.specs.declared.tree.operators.UnaryOp.TheVariants.{Address}
use Rattle.typing.specs.ctypes.Unary.{unary}
use Rattle.typing.specs.declared.idiom.Idiom.{Idiom}
use Rattle.typing.specs.Known.{Known, plain}
use Rattle.expressions.specs.Numbers.{operand_at}
use Rattle.expressions.proofs.Judging.{each_finished, answer_below}
use Rattle.expressions.proofs.nodes.operations.address_node.Goals as goal

pub returns : goal.returns
returns c =
    each_finished c.finish.result _ _ _ _ (record c.plain.result { idiom = c.address-idiom.result }) _ _ _ _ c.unary.result c.unary.ensures
    (λ n i. unary Address (operand_at n c.args.context.now.structs (c.operand.ensures i)))
    (λ n agrees t.
    ap (λ (k : Known). record k { ctype = t; idiom = c.address-idiom.result }) (c.plain.ensures.is n)
    ∙ ap (λ (idiom : Idiom). record (plain t) { idiom = idiom }) c.address-idiom.ensures)
    c.finish.ensures

pub finish-requires : goal.finish-requires
finish-requires c = answer_below _ _ _ c.unary.result c.unary.ensures
