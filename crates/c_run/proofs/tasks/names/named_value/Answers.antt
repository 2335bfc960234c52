-- A name of a constant is known, and any other is loaded.
use Rattle.std.proofs.Common.{ℕ, [], ◌∷◌, ap, refl, sym, ◌∙◌}
use Rattle.typing.specs.Forms.{name_in}
use Rattle.cbase.specs.declared.tree.expr.ExprForm.TheViews.{out-ExprForm}
use Rattle.c_machine.specs.declared.task.Task.TheVariants.{Push}
use Rattle.c_machine.specs.Expressions.{name_parts}
use Rattle.c_machine.specs.Trees.{text_of}
use Rattle.c_text.specs.Standing.{standing_by}
use Rattle.c_run.proofs.tasks.MakingRoom.{on_ok, same_room}
use Rattle.c_run.proofs.tasks.NamedThings.{no_constant}
use Rattle.c_run.proofs.tasks.names.named_value.Goals as goal

pub returns-in-Constant : goal.returns-in-Constant
returns-in-Constant c = on_ok _ _ c.alone.result
    (λ room made. λ n p stands. same_room _ (Push c.from.result ∷ []) room c.args.state.now c.alone.new.state
    (ap (name_parts (text_of p) c.args.expr.now) (sym (c.standing.ensures.is n p c.args.expr.now (name_in (out-ExprForm c.args.expr.now.form)) stands refl)
    ∙ ap (standing_by n p (name_in (out-ExprForm c.args.expr.now.form))) c.in-Constant.is)
    ∙ ap (λ (bits : ℕ). Push bits ∷ []) (sym c.from.ensures)) (made refl))
    c.alone.ensures

pub returns-in_default : goal.returns-in_default
returns-in_default c = on_ok _ _ c.loaded.result
    (λ room made. λ n p stands. same_room _ _ room c.args.state.now c.loaded.new.state
    (ap (name_parts (text_of p) c.args.expr.now) (sym (c.standing.ensures.is n p c.args.expr.now (name_in (out-ExprForm c.args.expr.now.form)) stands refl))
    ∙ no_constant n p c.args.expr.now (name_in (out-ExprForm c.args.expr.now.form)) c.standing.result c.in_default.not-Constant) (made n p stands))
    c.loaded.ensures
