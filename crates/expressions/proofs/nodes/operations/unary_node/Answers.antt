-- What a context answers of an operator on a value is what is found there.
use Rattle.std.proofs.Common.{ℕ, Option, ap, sym, ◌∙◌}
use Rattle.typing.specs.ctypes.Kinds.{kind_of}
use Rattle.typing.specs.ctypes.Unary.{unary}
use Rattle.typing.specs.Known.{Known, valued}
use Rattle.expressions.specs.Numbers.{operand_at}
use Rattle.expressions.proofs.Judging.{each_finished, answer_below}
use Rattle.expressions.proofs.nodes.operations.unary_node.Goals as goal

pub returns : goal.returns
returns c =
    each_finished c.finish.result _ _ _ _ c.valued.result _ _ _ _ c.unary.result c.unary.ensures
    (λ n i. unary c.args.op (operand_at n c.args.context.now.structs (c.operand.ensures i)))
    (λ n agrees t.
    let kind = kind_of c.args.context.now.structs (n.ctype c.args.arg.ctype) in
    ap (λ (k : Known). record k { ctype = t }) (c.valued.ensures.is n)
    ∙ ap (λ (v : Option ℕ). valued v t) (c.unary_value-value.ensures kind (sym (c.integer_type.ensures n agrees))))
    c.finish.ensures

pub finish-requires : goal.finish-requires
finish-requires c = answer_below _ _ _ c.unary.result c.unary.ensures
