-- The address of each form that has one.
use Rattle.std.proofs.Common.{◌∷◌, [], subst}
use Rattle.cbase.specs.declared.tree.expr.ExprForm.TheOpen as tree
use Rattle.cbase.specs.declared.tree.expr.ExprForm.TheViews.{outs-Name, outs-Index, outs-ExprForm::Member}
use Rattle.cbase.specs.declared.tree.operators.BinaryOp.TheVariants.{Add}
use Rattle.typing.specs.Forms.{Form as Layer}
use Rattle.c_machine.specs.declared.task.Task.TheVariants.{Operate, ValueOf}
use Rattle.c_machine.specs.Expressions.{address_parts, value_kind}
use Rattle.c_machine.specs.Trees.{form_of, text_of}
use Rattle.c_run.specs.tasks.Room.{MakesRoom}
use Rattle.c_run.proofs.tasks.MakingRoom.{Tasks, address_of_form, on_ok}
use Rattle.c_run.proofs.tasks.address.address_tasks.Goals as goal

pub returns-in-Name : goal.returns-in-Name
returns-in-Name c = on_ok _ _ c.object_address.result
    (λ room made. λ n p stands. address_of_form p c.args.expr.now _ _ room c.args.state.now c.object_address.new.state
    c.in-Name.is (outs-Name c.in-Name.field-0) (made n p stands))
    c.object_address.ensures

pub returns-in-Index : goal.returns-in-Index
returns-in-Index c = on_ok _ _ c.operated.result
    (λ room made. λ n p stands. address_of_form p c.args.expr.now _ _ room c.args.state.now c.operated.new.state
    c.in-Index.is (outs-Index c.in-Index.base c.in-Index.index)
    (subst (λ (tasks : Tasks). MakesRoom tasks room c.args.state.now c.operated.new.state)
    (λ i. ValueOf (c.get-in-Index.ensures i) ∷ ValueOf (c.get-in-Index-2.ensures i)
    ∷ Operate Add (value_kind (text_of p) (c.get-in-Index.ensures i)) (value_kind (text_of p) (c.get-in-Index-2.ensures i)) ∷ [])
    (made n p stands)))
    c.operated.ensures

pub returns-in-Member : goal.returns-in-Member
returns-in-Member c = on_ok _ _ c.member_address.result
    (λ room made. λ n p stands. address_of_form p c.args.expr.now _ _ room c.args.state.now c.member_address.new.state
    c.in-Member.is (outs-ExprForm::Member c.in-Member.base c.in-Member.name c.in-Member.through)
    (subst (λ (layer : Layer). MakesRoom (address_parts (text_of p) c.args.expr.now (form_of p c.args.expr.now layer)) room c.args.state.now c.member_address.new.state)
    (λ i. tree.ExprForm::Member (c.get-in-Member.ensures i) (c.get-in-Member-2.ensures i) c.in-Member.through)
    (made n p stands)))
    c.member_address.ensures
