-- What a context answers of `=` is what is found there.
use Rattle.std.proofs.Common.{ap}
use Rattle.typing.specs.ctypes.Assigning.{assigned}
use Rattle.typing.specs.Known.{Known}
use Rattle.expressions.specs.Numbers.{operand_at}
use Rattle.expressions.proofs.Judging.{each_finished, answer_below}
use Rattle.expressions.proofs.nodes.assigning.assignment_node.Goals as goal

pub returns : goal.returns
returns c =
    each_finished c.finish_blaming.result _ _ _ _ c.plain.result _ _ _ _ c.assignment.result c.assignment.ensures
    (λ n i. assigned (operand_at n c.args.context.now.structs (c.operand.ensures i)) (operand_at n c.args.context.now.structs (c.operand-2.ensures i)))
    (λ n agrees t. ap (λ (k : Known). record k { ctype = t }) (c.plain.ensures.is n))
    c.finish_blaming.ensures

pub finish_blaming-requires : goal.finish_blaming-requires
finish_blaming-requires c = answer_below _ _ _ c.assignment.result c.assignment.ensures
