-- What a context answers of `++` and `--` is what is found there.
use Rattle.std.proofs.Common.{ap}
use Rattle.typing.specs.ctypes.Unary.{counted}
use Rattle.typing.specs.Known.{Known}
use Rattle.expressions.specs.Numbers.{operand_at}
use Rattle.expressions.proofs.Judging.{each_finished, answer_below}
use Rattle.expressions.proofs.nodes.operations.counting_node.Goals as goal

pub returns : goal.returns
returns c =
    each_finished c.finish.result _ _ _ _ c.plain.result _ _ _ _ c.count.result c.count.ensures
    (λ n i. counted (operand_at n c.args.context.now.structs (c.operand.ensures i)))
    (λ n agrees t. ap (λ (k : Known). record k { ctype = t }) (c.plain.ensures.is n))
    c.finish.ensures

pub finish-requires : goal.finish-requires
finish-requires c = answer_below _ _ _ c.count.result c.count.ensures
