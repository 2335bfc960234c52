-- What a context answers of a member behind a pointer is what is found there.
use Rattle.std.proofs.Common.{ap, ◌∙◌}
use Rattle.typing.specs.ctypes.Kinds.{kind_of}
use Rattle.typing.specs.ctypes.Members.{member_through}
use Rattle.typing.specs.declared.idiom.Idiom.{Idiom}
use Rattle.typing.specs.Idiom.{through}
use Rattle.typing.specs.Known.{Known, located}
use Rattle.typing.specs.Nodes.{pointed_offset}
use Rattle.expressions.specs.Numbers.{operand_at}
use Rattle.expressions.proofs.Judging.{each_finished, answer_below}
use Rattle.expressions.proofs.nodes.members.pointed_member_node.Goals as goal

pub returns : goal.returns
returns c = λ abi.
    each_finished c.finish_blaming.result _ _ _ _ c.located-rest.result _ _ _ _ c.pointed_member.result c.pointed_member.ensures
    (λ n i. member_through c.args.context.now.structs (operand_at n c.args.context.now.structs (c.operand.ensures i)).kind (c.as_slice-2.ensures i))
    (λ n agrees t.
    let kind = kind_of c.args.context.now.structs (n.ctype c.args.base.ctype) in
    let offset = c.pointed_offset-offset.ensures n abi agrees ∙ (λ i. pointed_offset abi c.args.context.now.structs kind (c.as_slice.ensures i)) in
    ap (λ (k : Known). record k { ctype = t }) (c.located-rest.ensures.is n)
    ∙ ap (λ (idiom : Idiom). located idiom t) (c.through.ensures ∙ ap (through c.args.base.idiom) offset))
    c.finish_blaming.ensures

pub finish_blaming-requires : goal.finish_blaming-requires
finish_blaming-requires c = answer_below _ _ _ c.pointed_member.result c.pointed_member.ensures
