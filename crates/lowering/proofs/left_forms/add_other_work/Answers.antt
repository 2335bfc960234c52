-- By the kind of the value, and by whether the form leaves one.
use Rattle.std.proofs.Common.{sym, ap, ◌∙◌}
use Rattle.lowering.specs.Kinds.{is_void}
use Rattle.lowering.proofs.LeftParts.{work_dropped, work_nothing, work_void}
use Rattle.lowering.proofs.Lefts.{least_part, one_part}
use Rattle.lowering.specs.Reading.{form_in}
use Rattle.lowering.proofs.left_forms.add_other_work.Goals as goal

pub returns-then-is_void : goal.returns-then-is_void
returns-then-is_void c = one_part _ _ _ _ _ _ _ c.add_value.result c.add_value.ensures
    (λ p is. work_void p c.args.levels c.args.expr.now (form_in c.args.form.now) (sym (ap is_void (c.in_ok-own.ensures.of p is.reads)) ∙ sym c.is_void.ensures ∙ c.if-is_void.true))

pub returns-then-nothing : goal.returns-then-nothing
returns-then-nothing c = one_part _ _ _ _ _ _ _ c.add_value-then-nothing.result c.add_value-then-nothing.ensures
    (λ p is. work_nothing p c.args.levels c.args.expr.now (form_in c.args.form.now) (sym (ap is_void (c.in_ok-own.ensures.of p is.reads)) ∙ sym c.is_void.ensures ∙ c.if-is_void.false)
    (sym (c.in_ok-nothing.ensures.of p is) ∙ c.if-nothing.true))

pub returns : goal.returns
returns c = least_part _ _ _ _ _ _ _ c.add_whole.result _ _ c.in_ok-least.ensures c.add_nothing.ensures c.add_whole.ensures
    (λ p is. work_dropped p c.args.levels c.args.expr.now (form_in c.args.form.now) (sym (ap is_void (c.in_ok-own.ensures.of p is.reads)) ∙ sym c.is_void.ensures ∙ c.if-is_void.false)
    (sym (c.in_ok-nothing.ensures.of p is) ∙ c.if-nothing.false))
