-- The value of each form.
use Rattle.std.proofs.Common.{refl}
use Rattle.cbase.specs.declared.tree.expr.ExprForm.TheViews.{outs-Name, outs-Constant, outs-Unary, outs-Binary, outs-Assign, outs-Count, outs-Choose, outs-Cast, outs-SizeOf, outs-SizeOfType, outs-OffsetOf, outs-Index, outs-ExprForm::Member, outs-Call, outs-Inner, outs-AssertFail}
use Rattle.c_machine.specs.Expressions.{value_parts}
use Rattle.c_machine.specs.Text.{Unary, Binary, Assign, Count, Choose, Cast, Call, Inner}
use Rattle.c_machine.specs.Trees.{text_of}
use Rattle.c_run.proofs.tasks.ValueByForm.{member_loaded, value_of_form}
use Rattle.c_run.proofs.tasks.MakingRoom.{on_ok}
use Rattle.c_run.proofs.tasks.value.value_tasks.Goals as goal

pub returns-in-Name : goal.returns-in-Name
returns-in-Name c = on_ok _ _ c.named_value.result
    (λ room made. λ n p stands defined. value_of_form p c.args.expr.now _ _ _ room c.args.state.now c.named_value.new.state
    c.in-Name.is (outs-Name c.in-Name.field-0) refl (made n p stands))
    c.named_value.ensures

pub returns-in-Constant : goal.returns-in-Constant
returns-in-Constant c = on_ok _ _ c.known_value.result
    (λ room made. λ n p stands defined. value_of_form p c.args.expr.now _ _ _ room c.args.state.now c.known_value.new.state
    c.in-Constant.is (outs-Constant c.in-Constant.field-0) refl (made n p stands))
    c.known_value.ensures

pub returns-in-Unary : goal.returns-in-Unary
returns-in-Unary c = on_ok _ _ c.unary.result
    (λ room made. λ n p stands defined. value_of_form p c.args.expr.now _ _ _ room c.args.state.now c.unary.new.state
    c.in-Unary.is (outs-Unary c.in-Unary.op c.in-Unary.arg) (λ i. value_parts (text_of p) c.args.expr.now (Unary c.in-Unary.op (c.get.ensures i))) (made n p stands))
    c.unary.ensures

pub returns-in-Binary : goal.returns-in-Binary
returns-in-Binary c = on_ok _ _ c.binary.result
    (λ room made. λ n p stands defined. value_of_form p c.args.expr.now _ _ _ room c.args.state.now c.binary.new.state
    c.in-Binary.is (outs-Binary c.in-Binary.op c.in-Binary.left c.in-Binary.right) (λ i. value_parts (text_of p) c.args.expr.now (Binary c.in-Binary.op (c.get-in-Binary.ensures i) (c.get-in-Binary-2.ensures i))) (made n p stands))
    c.binary.ensures

pub returns-in-Assign : goal.returns-in-Assign
returns-in-Assign c = on_ok _ _ c.assigned.result
    (λ room made. λ n p stands defined. value_of_form p c.args.expr.now _ _ _ room c.args.state.now c.assigned.new.state
    c.in-Assign.is (outs-Assign c.in-Assign.op c.in-Assign.left c.in-Assign.right) (λ i. value_parts (text_of p) c.args.expr.now (Assign c.in-Assign.op (c.get-in-Assign.ensures i) (c.get-in-Assign-2.ensures i))) (made n p stands))
    c.assigned.ensures

pub returns-in-Count : goal.returns-in-Count
returns-in-Count c = on_ok _ _ c.counted.result
    (λ room made. λ n p stands defined. value_of_form p c.args.expr.now _ _ _ room c.args.state.now c.counted.new.state
    c.in-Count.is (outs-Count c.in-Count.up c.in-Count.after c.in-Count.arg) (λ i. value_parts (text_of p) c.args.expr.now (Count c.in-Count.up c.in-Count.after (c.get-in-Count.ensures i))) (made n p stands))
    c.counted.ensures

pub returns-in-Choose : goal.returns-in-Choose
returns-in-Choose c = on_ok _ _ c.chosen.result
    (λ room made. λ n p stands defined. value_of_form p c.args.expr.now _ _ _ room c.args.state.now c.chosen.new.state
    c.in-Choose.is (outs-Choose c.in-Choose.test c.in-Choose.yes c.in-Choose.no) (λ i. value_parts (text_of p) c.args.expr.now (Choose (c.get-in-Choose.ensures i) (c.get-in-Choose-2.ensures i) (c.get-in-Choose-3.ensures i))) (made n p stands))
    c.chosen.ensures

pub returns-in-Cast : goal.returns-in-Cast
returns-in-Cast c = on_ok _ _ c.cast.result
    (λ room made. λ n p stands defined. value_of_form p c.args.expr.now _ _ _ room c.args.state.now c.cast.new.state
    c.in-Cast.is (outs-Cast c.in-Cast.to c.in-Cast.arg) (λ i. value_parts (text_of p) c.args.expr.now (Cast (c.get-in-Cast.ensures i))) (made n p stands))
    c.cast.ensures

pub returns-in-SizeOf : goal.returns-in-SizeOf
returns-in-SizeOf c = on_ok _ _ c.known_value-in-SizeOf.result
    (λ room made. λ n p stands defined. value_of_form p c.args.expr.now _ _ _ room c.args.state.now c.known_value-in-SizeOf.new.state
    c.in-SizeOf.is (outs-SizeOf c.in-SizeOf.field-0) refl (made n p stands))
    c.known_value-in-SizeOf.ensures

pub returns-in-SizeOfType : goal.returns-in-SizeOfType
returns-in-SizeOfType c = on_ok _ _ c.known_value-in-SizeOfType.result
    (λ room made. λ n p stands defined. value_of_form p c.args.expr.now _ _ _ room c.args.state.now c.known_value-in-SizeOfType.new.state
    c.in-SizeOfType.is (outs-SizeOfType c.in-SizeOfType.field-0) refl (made n p stands))
    c.known_value-in-SizeOfType.ensures

pub returns-in-OffsetOf : goal.returns-in-OffsetOf
returns-in-OffsetOf c = on_ok _ _ c.known_value-in-OffsetOf.result
    (λ room made. λ n p stands defined. value_of_form p c.args.expr.now _ _ _ room c.args.state.now c.known_value-in-OffsetOf.new.state
    c.in-OffsetOf.is (outs-OffsetOf c.in-OffsetOf.to c.in-OffsetOf.path) refl (made n p stands))
    c.known_value-in-OffsetOf.ensures

pub returns-in-Index : goal.returns-in-Index
returns-in-Index c = on_ok _ _ c.loaded.result
    (λ room made. λ n p stands defined. value_of_form p c.args.expr.now _ _ _ room c.args.state.now c.loaded.new.state
    c.in-Index.is (outs-Index c.in-Index.base c.in-Index.index) refl (made n p stands))
    c.loaded.ensures

pub returns-in-Member : goal.returns-in-Member
returns-in-Member c = on_ok _ _ c.loaded-in-Member.result
    (λ room made. λ n p stands defined. value_of_form p c.args.expr.now _ _ _ room c.args.state.now c.loaded-in-Member.new.state
    c.in-Member.is (outs-ExprForm::Member c.in-Member.base c.in-Member.name c.in-Member.through) refl (member_loaded p c.args.expr.now c.in-Member.base c.in-Member.name c.in-Member.through room c.args.state.now c.loaded-in-Member.new.state (λ offset. made n p stands)))
    c.loaded-in-Member.ensures

pub returns-in-Call : goal.returns-in-Call
returns-in-Call c = on_ok _ _ c.called.result
    (λ room made. λ n p stands defined. value_of_form p c.args.expr.now _ _ _ room c.args.state.now c.called.new.state
    c.in-Call.is (outs-Call c.in-Call.callee c.in-Call.args) (λ i. value_parts (text_of p) c.args.expr.now (Call (c.get-in-Call.ensures i) (c.as_slice.ensures i))) (made n p c.args.expr.now stands defined))
    c.called.ensures

pub returns-in-Inner : goal.returns-in-Inner
returns-in-Inner c = on_ok _ _ c.in_inner_block.result
    (λ room made. λ n p stands defined. value_of_form p c.args.expr.now _ _ _ room c.args.state.now c.in_inner_block.new.state
    c.in-Inner.is (outs-Inner c.in-Inner.body c.in-Inner.close) (λ i. value_parts (text_of p) c.args.expr.now (Inner (c.as_slice-in-Inner.ensures i) c.in-Inner.close)) (made n p stands))
    c.in_inner_block.ensures

pub returns-in-AssertFail : goal.returns-in-AssertFail
returns-in-AssertFail c = on_ok _ _ c.alone.result
    (λ room made. λ n p stands defined. value_of_form p c.args.expr.now _ _ _ room c.args.state.now c.alone.new.state
    c.in-AssertFail.is outs-AssertFail refl (made refl))
    c.alone.ensures
