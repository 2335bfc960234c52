-- What stands in each form.
use Rattle.std.proofs.Common.{◌∷◌, [], ◌++◌, map, refl, sym, ◌∙◌, append_assoc}
use Rattle.std.specs.List.{flat_map}
use Rattle.cbase.specs.declared.tree.expr.ExprForm.TheViews.{out-Part, outs-Name, outs-Constant, outs-Unary, outs-Binary, outs-Assign, outs-Count, outs-Choose, outs-Cast, outs-SizeOf, outs-SizeOfType, outs-OffsetOf, outs-Index, outs-ExprForm::Member, outs-Call, outs-Inner, outs-AssertFail}
use Rattle.cbase.specs.declared.tree.expr.Part.{Part}
use Rattle.c_machine.specs.Statics.{AnExpr, AStmt, in_step, in_type_name}
use Rattle.c_text.proofs.statics.ByForm.{form_in_front}
use Rattle.c_text.proofs.statics.Walking.{on_ok}
use Rattle.c_text.proofs.statics.parts.expr.push_in_expr.Goals as goal

pub returns-in-Name : goal.returns-in-Name
returns-in-Name c = form_in_front c.args.expr.now _ _ _ c.args.nodes.now _ c.in-Name.is (outs-Name c.in-Name.field-0) refl refl

pub returns-in-Constant : goal.returns-in-Constant
returns-in-Constant c = form_in_front c.args.expr.now _ _ _ c.args.nodes.now _ c.in-Constant.is (outs-Constant c.in-Constant.field-0) refl refl

pub returns-in-Unary : goal.returns-in-Unary
returns-in-Unary c = on_ok _ _ c.push_expr.result
    (λ done made. form_in_front c.args.expr.now _ _ _ c.args.nodes.now c.push_expr.new.nodes c.in-Unary.is (outs-Unary c.in-Unary.op c.in-Unary.arg)
    (λ i. AnExpr (c.get.ensures i) ∷ c.args.nodes.now) made)
    c.push_expr.ensures

pub returns-in-Binary : goal.returns-in-Binary
returns-in-Binary c = on_ok _ _ c.push_two.result
    (λ done made. form_in_front c.args.expr.now _ _ _ c.args.nodes.now c.push_two.new.nodes c.in-Binary.is (outs-Binary c.in-Binary.op c.in-Binary.left c.in-Binary.right)
    (λ i. AnExpr (c.get-in-Binary.ensures i) ∷ AnExpr (c.get-in-Binary-2.ensures i) ∷ c.args.nodes.now) made)
    c.push_two.ensures

pub returns-in-Assign : goal.returns-in-Assign
returns-in-Assign c = on_ok _ _ c.push_two-in-Assign.result
    (λ done made. form_in_front c.args.expr.now _ _ _ c.args.nodes.now c.push_two-in-Assign.new.nodes c.in-Assign.is (outs-Assign c.in-Assign.op c.in-Assign.left c.in-Assign.right)
    (λ i. AnExpr (c.get-in-Assign.ensures i) ∷ AnExpr (c.get-in-Assign-2.ensures i) ∷ c.args.nodes.now) made)
    c.push_two-in-Assign.ensures

pub returns-in-Count : goal.returns-in-Count
returns-in-Count c = on_ok _ _ c.push_expr-in-Count.result
    (λ done made. form_in_front c.args.expr.now _ _ _ c.args.nodes.now c.push_expr-in-Count.new.nodes c.in-Count.is (outs-Count c.in-Count.up c.in-Count.after c.in-Count.arg)
    (λ i. AnExpr (c.get-in-Count.ensures i) ∷ c.args.nodes.now) made)
    c.push_expr-in-Count.ensures

pub returns-in-Choose : goal.returns-in-Choose
returns-in-Choose c = on_ok _ _ c.push_three.result
    (λ done made. form_in_front c.args.expr.now _ _ _ c.args.nodes.now c.push_three.new.nodes c.in-Choose.is (outs-Choose c.in-Choose.test c.in-Choose.yes c.in-Choose.no)
    (λ i. AnExpr (c.get-in-Choose.ensures i) ∷ AnExpr (c.get-in-Choose-2.ensures i) ∷ AnExpr (c.get-in-Choose-3.ensures i) ∷ c.args.nodes.now) made)
    c.push_three.ensures

pub returns-in-Cast : goal.returns-in-Cast
returns-in-Cast c = on_ok _ _ c.push_cast.result
    (λ done made. form_in_front c.args.expr.now _ _ _ c.args.nodes.now c.push_cast.new.nodes c.in-Cast.is (outs-Cast c.in-Cast.to c.in-Cast.arg)
    ((λ i. in_type_name (c.get-in-Cast.ensures i) ++ AnExpr (c.get-in-Cast-2.ensures i) ∷ c.args.nodes.now)
    ∙ sym (append_assoc (in_type_name c.in-Cast.to) (AnExpr c.in-Cast.arg ∷ []) c.args.nodes.now)) made)
    c.push_cast.ensures

pub returns-in-SizeOf : goal.returns-in-SizeOf
returns-in-SizeOf c = on_ok _ _ c.push_expr-in-SizeOf.result
    (λ done made. form_in_front c.args.expr.now _ _ _ c.args.nodes.now c.push_expr-in-SizeOf.new.nodes c.in-SizeOf.is (outs-SizeOf c.in-SizeOf.arg)
    (λ i. AnExpr (c.get-in-SizeOf.ensures i) ∷ c.args.nodes.now) made)
    c.push_expr-in-SizeOf.ensures

pub returns-in-SizeOfType : goal.returns-in-SizeOfType
returns-in-SizeOfType c = on_ok _ _ c.push_in_type_name.result
    (λ done made. form_in_front c.args.expr.now _ _ _ c.args.nodes.now c.push_in_type_name.new.nodes c.in-SizeOfType.is (outs-SizeOfType c.in-SizeOfType.to)
    (λ i. in_type_name (c.get-in-SizeOfType.ensures i) ++ c.args.nodes.now) made)
    c.push_in_type_name.ensures

pub returns-in-OffsetOf : goal.returns-in-OffsetOf
returns-in-OffsetOf c = on_ok _ _ c.push_way.result
    (λ done made. form_in_front c.args.expr.now _ _ _ c.args.nodes.now c.push_way.new.nodes c.in-OffsetOf.is (outs-OffsetOf c.in-OffsetOf.to c.in-OffsetOf.path)
    ((λ i. in_type_name (c.get-in-OffsetOf.ensures i) ++ (flat_map (λ (step : Part). in_step (out-Part step)) (c.as_slice.ensures i) ++ c.args.nodes.now))
    ∙ sym (append_assoc (in_type_name c.in-OffsetOf.to) (flat_map (λ (step : Part). in_step (out-Part step)) c.in-OffsetOf.path) c.args.nodes.now)) made)
    c.push_way.ensures

pub returns-in-Index : goal.returns-in-Index
returns-in-Index c = on_ok _ _ c.push_two-in-Index.result
    (λ done made. form_in_front c.args.expr.now _ _ _ c.args.nodes.now c.push_two-in-Index.new.nodes c.in-Index.is (outs-Index c.in-Index.base c.in-Index.index)
    (λ i. AnExpr (c.get-in-Index.ensures i) ∷ AnExpr (c.get-in-Index-2.ensures i) ∷ c.args.nodes.now) made)
    c.push_two-in-Index.ensures

pub returns-in-Member : goal.returns-in-Member
returns-in-Member c = on_ok _ _ c.push_expr-in-Member.result
    (λ done made. form_in_front c.args.expr.now _ _ _ c.args.nodes.now c.push_expr-in-Member.new.nodes c.in-Member.is (outs-ExprForm::Member c.in-Member.base c.in-Member.name c.in-Member.through)
    (λ i. AnExpr (c.get-in-Member.ensures i) ∷ c.args.nodes.now) made)
    c.push_expr-in-Member.ensures

pub returns-in-Call : goal.returns-in-Call
returns-in-Call c = on_ok _ _ c.push_call.result
    (λ done made. form_in_front c.args.expr.now _ _ _ c.args.nodes.now c.push_call.new.nodes c.in-Call.is (outs-Call c.in-Call.callee c.in-Call.args)
    (λ i. AnExpr (c.get-in-Call.ensures i) ∷ map AnExpr (c.as_slice-in-Call.ensures i) ++ c.args.nodes.now) made)
    c.push_call.ensures

pub returns-in-Inner : goal.returns-in-Inner
returns-in-Inner c = on_ok _ _ c.push_stmts.result
    (λ done made. form_in_front c.args.expr.now _ _ _ c.args.nodes.now c.push_stmts.new.nodes c.in-Inner.is (outs-Inner c.in-Inner.body c.in-Inner.close)
    (λ i. map AStmt (c.as_slice-in-Inner.ensures i) ++ c.args.nodes.now) made)
    c.push_stmts.ensures

pub returns-in-AssertFail : goal.returns-in-AssertFail
returns-in-AssertFail c = form_in_front c.args.expr.now _ _ _ c.args.nodes.now _ c.in-AssertFail.is outs-AssertFail refl refl
