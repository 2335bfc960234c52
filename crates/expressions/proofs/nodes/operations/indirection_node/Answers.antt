-- What a context answers of `*` is what is found there.
use Rattle.std.proofs.Common.{ap}
use Rattle.cbase.specs.declared.tree.operators.UnaryOp.TheVariants.{Follow}
use Rattle.typing.specs.ctypes.Unary.{unary}
use Rattle.typing.specs.Known.{Known}
use Rattle.expressions.specs.Numbers.{operand_at}
use Rattle.expressions.proofs.Judging.{each_finished, answer_below}
use Rattle.expressions.proofs.nodes.operations.indirection_node.Goals as goal

pub returns : goal.returns
returns c =
    each_finished c.finish.result _ _ _ _ c.located.result _ _ _ _ c.unary.result c.unary.ensures
    (λ n i. unary Follow (operand_at n c.args.context.now.structs (c.operand.ensures i)))
    (λ n agrees t. ap (λ (k : Known). record k { ctype = t }) (c.located.ensures.is n))
    c.finish.ensures

pub finish-requires : goal.finish-requires
finish-requires c = answer_below _ _ _ c.unary.result c.unary.ensures
