-- What a context answers of an index is what is found there.
use Rattle.std.proofs.Common.{ap, sym, ◌∙◌}
use Rattle.typing.specs.ctypes.Kinds.{kind_of, decayed}
use Rattle.typing.specs.ctypes.Members.{indexed}
use Rattle.typing.specs.declared.idiom.Idiom.{Idiom}
use Rattle.typing.specs.Idiom.{at_index}
use Rattle.typing.specs.Known.{Known, located}
use Rattle.expressions.specs.Numbers.{operand_at}
use Rattle.expressions.proofs.Judging.{each_finished, answer_below}
use Rattle.expressions.proofs.nodes.members.index_node.Goals as goal

pub returns : goal.returns
returns c = λ abi.
    each_finished c.finish.result _ _ _ _ c.located.result _ _ _ _ c.index.result c.index.ensures
    (λ n i. indexed (decayed (operand_at n c.args.context.now.structs (c.operand.ensures i)).kind) (decayed (operand_at n c.args.context.now.structs (c.operand-2.ensures i)).kind))
    (λ n agrees t.
    let word = c.word_of-word.ensures (kind_of c.args.context.now.structs (n.ctype c.args.index.ctype)) (sym (c.integer_type.ensures n agrees)) in
    ap (λ (k : Known). record k { ctype = t }) (c.located.ensures.is n)
    ∙ ap (λ (idiom : Idiom). located idiom t) (c.at_index-idiom.ensures ∙ (λ i. at_index c.args.base.idiom (word i) (c.item_bytes.ensures n abi agrees i))))
    c.finish.ensures

pub finish-requires : goal.finish-requires
finish-requires c = answer_below _ _ _ c.index.result c.index.ensures
