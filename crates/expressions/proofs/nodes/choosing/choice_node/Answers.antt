-- What a context answers of `?:` is what is found there.
use Rattle.std.proofs.Common.{ℕ, Option, ap, sym, ◌∙◌}
use Rattle.typing.specs.ctypes.Choosing.{chosen}
use Rattle.typing.specs.ctypes.Kinds.{kind_of}
use Rattle.typing.specs.Known.{Known, valued}
use Rattle.expressions.specs.Numbers.{operand_at}
use Rattle.expressions.proofs.Judging.{each_finished, answer_below}
use Rattle.expressions.proofs.nodes.choosing.choice_node.Goals as goal

pub returns : goal.returns
returns c =
    each_finished c.finish.result _ _ _ _ c.valued.result _ _ _ _ c.choice.result c.choice.ensures
    (λ n i. chosen (operand_at n c.args.context.now.structs (c.operand.ensures i)) (operand_at n c.args.context.now.structs (c.operand-2.ensures i))
    (operand_at n c.args.context.now.structs (c.operand-3.ensures i)))
    (λ n agrees t.
    let test = kind_of c.args.context.now.structs (n.ctype c.args.test.ctype) in
    let one = kind_of c.args.context.now.structs (n.ctype c.args.one.ctype) in
    let other = kind_of c.args.context.now.structs (n.ctype c.args.other.ctype) in
    ap (λ (k : Known). record k { ctype = t }) (c.valued.ensures.is n)
    ∙ ap (λ (v : Option ℕ). valued v t)
    (c.choice_value-value.ensures test one other (sym (c.integer_type.ensures n agrees)) (sym (c.integer_type-2.ensures n agrees)) (sym (c.integer_type-3.ensures n agrees))))
    c.finish.ensures

pub finish-requires : goal.finish-requires
finish-requires c = answer_below _ _ _ c.choice.result c.choice.ensures
