-- A name of an object has its address.
use Rattle.std.proofs.Common.{[], ◌∷◌, refl, sym, ap, ◌∙◌}
use Rattle.typing.specs.Forms.{name_in}
use Rattle.cbase.specs.declared.tree.expr.ExprForm.TheViews.{out-ExprForm}
use Rattle.c_machine.specs.declared.task.Task.TheVariants.{ObjectAt}
use Rattle.c_machine.specs.Expressions.{named}
use Rattle.c_machine.specs.Trees.{text_of}
use Rattle.c_text.specs.Standing.{standing_by}
use Rattle.c_run.proofs.tasks.MakingRoom.{on_ok, same_room}
use Rattle.c_run.proofs.tasks.NamedThings.{no_object}
use Rattle.c_run.proofs.tasks.address.object_address.Goals as goal

pub returns-in-Object : goal.returns-in-Object
returns-in-Object c = on_ok _ _ c.alone.result
    (λ room made. λ n p stands. same_room _ (ObjectAt c.in-Object.token ∷ []) room c.args.state.now c.alone.new.state
    (ap (named (text_of p)) (sym (c.standing.ensures.is n p c.args.expr.now (name_in (out-ExprForm c.args.expr.now.form)) stands refl)
    ∙ ap (standing_by n p (name_in (out-ExprForm c.args.expr.now.form))) c.in-Object.is)) (made refl))
    c.alone.ensures

pub returns-in_default : goal.returns-in_default
returns-in_default c = on_ok _ _ c.unknown.result
    (λ room made. λ n p stands. same_room _ _ room c.args.state.now c.unknown.new.state
    (ap (named (text_of p)) (sym (c.standing.ensures.is n p c.args.expr.now (name_in (out-ExprForm c.args.expr.now.form)) stands refl))
    ∙ no_object n p (name_in (out-ExprForm c.args.expr.now.form)) c.standing.result c.in_default.not-Object) made)
    c.unknown.ensures
