-- What a name stands for decides what a call is. The name of what is called stands in its tree.
use Rattle.std.proofs.Common.{List, ℕ, Option, Some, length, refl, sym, ap, subst, ◌∙◌}
use Rattle.cbase.specs.declared.tree.expr.ExprForm.TheViews.{out-ExprForm, outs-Name}
use Rattle.typing.specs.Forms.{name_in}
use Rattle.c_machine.specs.Expressions.{call_parts}
use Rattle.c_machine.specs.Program.{FunctionItem, functions_in, number_in}
use Rattle.c_machine.specs.Trees.{body_stands, text_of}
use Rattle.c_text.specs.declared.standing.Standing.{Standing as Told}
use Rattle.c_text.specs.Standing.{body_by, built_in_by, standing_by, StandingBelow}
use Rattle.c_run.proofs.tasks.MakingRoom.{on_ok, same_room}
use Rattle.c_run.proofs.tasks.calls.called.Goals as goal

pub built_in_call-requires : goal.built_in_call-requires
built_in_call-requires c =
    subst (λ (told : Told). StandingBelow (length c.args.text.now.environment.signatures) told) c.in-BuiltIn.is c.standing.ensures.below

pub returns-in-BuiltIn : goal.returns-in-BuiltIn
returns-in-BuiltIn c = on_ok _ _ c.built_in_call.result
    (λ room made. λ n p expr stands defined. same_room _ _ room c.args.state.now c.built_in_call.new.state
    (ap (call_parts (text_of p) c.args.callee.now c.args.args.now)
    (sym (c.standing.ensures.is n p c.args.callee.now (name_in (out-ExprForm c.args.callee.now.form)) stands refl) ∙ ap (standing_by n p (name_in (out-ExprForm c.args.callee.now.form))) c.in-BuiltIn.is
    ∙ ap (λ (name : Option (List ℕ)). built_in_by n p name (n.signature c.in-BuiltIn.signature)) (ap name_in (ap out-ExprForm c.in-Name.is ∙ outs-Name c.in-Name.name) ∙ ap Some (sym c.as_slice.ensures))))
    (made n p stands))
    c.built_in_call.ensures

pub returns-in-Body : goal.returns-in-Body
returns-in-Body c = on_ok _ _ c.named_call.result
    (λ room made. λ n p expr stands defined. same_room _ _ room c.args.state.now c.named_call.new.state
    (ap (call_parts (text_of p) c.args.callee.now c.args.args.now)
    (sym (c.standing.ensures.is n p c.args.callee.now (name_in (out-ExprForm c.args.callee.now.form)) stands refl) ∙ ap (standing_by n p (name_in (out-ExprForm c.args.callee.now.form))) c.in-Body.is
    ∙ ap (body_by p) (ap name_in (ap out-ExprForm c.in-Name.is ∙ outs-Name c.in-Name.name))
    ∙ ap (λ (name : List ℕ). body_stands (number_in (functions_in p.items) name)) (sym c.as_slice-in-Body.ensures)
    ∙ ap (λ (functions : List FunctionItem). body_stands (number_in functions c.as_slice-in-Body.result.now)) (sym defined)))
    (made n p c.args.callee.now stands defined))
    c.named_call.ensures

pub returns-in-Object : goal.returns-in-Object
returns-in-Object c = on_ok _ _ c.unknown.result
    (λ room made. λ n p expr stands defined. same_room _ _ room c.args.state.now c.unknown.new.state
    (ap (call_parts (text_of p) c.args.callee.now c.args.args.now)
    (sym (c.standing.ensures.is n p c.args.callee.now (name_in (out-ExprForm c.args.callee.now.form)) stands refl) ∙ ap (standing_by n p (name_in (out-ExprForm c.args.callee.now.form))) c.in-Object.is))
    made)
    c.unknown.ensures

pub returns-in-Constant : goal.returns-in-Constant
returns-in-Constant c = on_ok _ _ c.unknown-in-Constant.result
    (λ room made. λ n p expr stands defined. same_room _ _ room c.args.state.now c.unknown-in-Constant.new.state
    (ap (call_parts (text_of p) c.args.callee.now c.args.args.now)
    (sym (c.standing.ensures.is n p c.args.callee.now (name_in (out-ExprForm c.args.callee.now.form)) stands refl) ∙ ap (standing_by n p (name_in (out-ExprForm c.args.callee.now.form))) c.in-Constant.is))
    made)
    c.unknown-in-Constant.ensures

pub returns-in-Nothing : goal.returns-in-Nothing
returns-in-Nothing c = on_ok _ _ c.unknown-in-Nothing.result
    (λ room made. λ n p expr stands defined. same_room _ _ room c.args.state.now c.unknown-in-Nothing.new.state
    (ap (call_parts (text_of p) c.args.callee.now c.args.args.now)
    (sym (c.standing.ensures.is n p c.args.callee.now (name_in (out-ExprForm c.args.callee.now.form)) stands refl) ∙ ap (standing_by n p (name_in (out-ExprForm c.args.callee.now.form))) c.in-Nothing.is))
    made)
    c.unknown-in-Nothing.ensures
