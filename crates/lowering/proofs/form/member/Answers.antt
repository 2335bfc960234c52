-- The offset of the member.
use Rattle.std.proofs.Common.{Bool, true, false, sym, subst}
use Rattle.cbase.specs.declared.tree.expr.Expr.{Expr}
use Rattle.c_machine.specs.Text.{Member}
use Rattle.lowering.specs.Reading.{IsMember}
use Rattle.lowering.proofs.Sources.{member_form, pointed_form}
use Rattle.lowering.proofs.form.member.Goals as goal

pub returns-then-through : goal.returns-then-through
returns-then-through c =
    subst (λ (through : Bool). IsMember c.args.source.now.context c.args.base.now c.args.name.now through (Member c.of.result c.pointed_offset.result through)) (sym c.if-through.true)
    (subst (λ (base : Expr). IsMember c.args.source.now.context c.args.base.now c.args.name.now true (Member base c.pointed_offset.result true)) (sym c.of.ensures)
    (pointed_form _ c.text.result.now _ _ _ _ c.text.ensures c.as_slice-spelled.ensures (λ n p other. c.pointed_offset.ensures n p other)))

pub returns-else-through : goal.returns-else-through
returns-else-through c =
    subst (λ (through : Bool). IsMember c.args.source.now.context c.args.base.now c.args.name.now through (Member c.of-else-through.result c.member_offset.result through))
    (sym c.if-through.false)
    (subst (λ (base : Expr). IsMember c.args.source.now.context c.args.base.now c.args.name.now false (Member base c.member_offset.result false)) (sym c.of-else-through.ensures)
    (member_form _ c.text-else-through.result.now _ _ _ _ c.text-else-through.ensures c.as_slice-spelled.ensures (λ n p other. c.member_offset.ensures n p other)))
