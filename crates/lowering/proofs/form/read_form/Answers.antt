-- A member has its offset.
use Rattle.std.proofs.Common.{◌∙◌}
use Rattle.cbase.specs.declared.tree.expr.ExprForm.TheOpen as tree
use Rattle.cbase.specs.declared.tree.expr.ExprForm.TheViews.{outs-ExprForm::Member}
use Rattle.c_machine.specs.Trees.{form_of}
use Rattle.lowering.proofs.Sources.{form_is}
use Rattle.lowering.proofs.form.read_form.Goals as goal

pub returns-in-Member : goal.returns-in-Member
returns-in-Member c = form_is _ _ _ _ _ c.in-Member.is (outs-ExprForm::Member c.in-Member.base c.in-Member.name c.in-Member.through)
    (λ p reads. c.member.ensures.of p c.args.expr.now reads
    ∙ (λ i. form_of p c.args.expr.now (tree.ExprForm::Member (c.get-in-Member.ensures i) (c.get-in-Member-2.ensures i) c.in-Member.through)))
