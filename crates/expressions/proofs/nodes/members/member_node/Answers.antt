-- What a context answers of a member is what is found there.
use Rattle.std.proofs.Common.{ap, ◌∙◌}
use Rattle.typing.specs.ctypes.Members.{member_of}
use Rattle.typing.specs.declared.idiom.Idiom.{Idiom}
use Rattle.typing.specs.Idiom.{within, member_offset}
use Rattle.typing.specs.Known.{Known, located}
use Rattle.expressions.proofs.Judging.{each_finished, answer_below}
use Rattle.expressions.proofs.nodes.members.member_node.Goals as goal

pub returns : goal.returns
returns c = λ abi.
    each_finished c.finish_blaming.result _ _ _ _ (record c.located.result { lvalue = c.args.base.lvalue }) _ _ _ _ c.member.result c.member.ensures
    (λ n i. member_of c.args.context.now.structs (n.ctype (c.operand.ensures i).ctype) (c.as_slice-2.ensures i))
    (λ n agrees t.
    let offset = c.member_offset-offset.ensures n abi agrees ∙ (λ i. member_offset abi c.args.context.now.structs (n.ctype c.args.base.ctype) (c.as_slice.ensures i)) in
    ap (λ (k : Known). record k { ctype = t; lvalue = c.args.base.lvalue }) (c.located.ensures.is n)
    ∙ ap (λ (idiom : Idiom). record (located idiom t) { lvalue = c.args.base.lvalue }) (c.within.ensures ∙ ap (within c.args.base.idiom) offset))
    c.finish_blaming.ensures

pub finish_blaming-requires : goal.finish_blaming-requires
finish_blaming-requires c = answer_below _ _ _ c.member.result c.member.ensures
