-- What a context answers of a binary operator is what is found there.
use Rattle.std.proofs.Common.{ℕ, Option, ap, sym, ◌∙◌}
use Rattle.typing.specs.ctypes.Binary.{binary}
use Rattle.typing.specs.ctypes.Kinds.{kind_of}
use Rattle.typing.specs.Known.{Known, valued}
use Rattle.expressions.specs.Numbers.{operand_at}
use Rattle.expressions.proofs.Judging.{each_finished, answer_below}
use Rattle.expressions.proofs.nodes.operations.binary_node.Goals as goal

pub returns : goal.returns
returns c =
    each_finished c.finish.result _ _ _ _ c.valued.result _ _ _ _ c.binary.result c.binary.ensures
    (λ n i. binary c.args.op (operand_at n c.args.context.now.structs (c.operand.ensures i)) (operand_at n c.args.context.now.structs (c.operand-2.ensures i)))
    (λ n agrees t.
    let left = kind_of c.args.context.now.structs (n.ctype c.args.left.ctype) in
    let right = kind_of c.args.context.now.structs (n.ctype c.args.right.ctype) in
    ap (λ (k : Known). record k { ctype = t }) (c.valued.ensures.is n)
    ∙ ap (λ (v : Option ℕ). valued v t)
    (c.binary_value-value.ensures left right (sym (c.integer_type.ensures n agrees)) (sym (c.integer_type-2.ensures n agrees))))
    c.finish.ensures

pub finish-requires : goal.finish-requires
finish-requires c = answer_below _ _ _ c.binary.result c.binary.ensures
