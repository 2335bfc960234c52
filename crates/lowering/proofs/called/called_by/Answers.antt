-- What the name stands for.
use Rattle.std.proofs.Common.{Some, sym, ap, subst, ◌∙◌}
use Rattle.cbase.specs.declared.tree.expr.ExprForm.TheViews.{out-ExprForm, outs-Name}
use Rattle.typing.specs.Forms.{name_in}
use Rattle.c_text.specs.declared.standing.Standing.{Standing as Told}
use Rattle.c_text.specs.Standing.{standing_by}
use Rattle.lowering.specs.Calls.{Calls}
use Rattle.lowering.proofs.CalledLines.{called_as, found_body}
use Rattle.lowering.proofs.Onward.{if_ok}
use Rattle.lowering.proofs.called.called_by.Goals as goal

pub returns-in-BuiltIn : goal.returns-in-BuiltIn
returns-in-BuiltIn c = if_ok c.built_in_called.result
    (λ called is. called_as _ c.text.result.now _ c.standing.result (Some c.as_slice.result.now) called c.text.ensures
    (ap name_in (ap out-ExprForm c.in-Name.is ∙ outs-Name c.in-Name.name) ∙ ap Some (sym c.as_slice.ensures))
    (λ n p other name. c.standing.ensures.is n p other name)
    (λ p source. subst (λ (told : Told). Calls p called (standing_by source.reads.0 p (Some c.as_slice.result.now) told)) (sym c.in-BuiltIn.is) (is.of source.reads.0 p source.reads.1)))
    c.built_in_called.ensures

pub returns-in-Body : goal.returns-in-Body
returns-in-Body c = if_ok c.body_called.result
    (λ called is. called_as _ c.text.result.now _ c.standing.result (Some c.as_slice-in-Body.result.now) called c.text.ensures
    (ap name_in (ap out-ExprForm c.in-Name.is ∙ outs-Name c.in-Name.name) ∙ ap Some (sym c.as_slice-in-Body.ensures))
    (λ n p other name. c.standing.ensures.is n p other name)
    (λ p source. subst (λ (told : Told). Calls p called (standing_by source.reads.0 p (Some c.as_slice-in-Body.result.now) told)) (sym c.in-Body.is) (found_body _ _ called is p source)))
    c.body_called.ensures
