-- Each call leaves the step of what the task is.
use Rattle.std.proofs.Common.{Ok, refl}
use Rattle.c_steps.proofs.StepsOfKinds.{with_choices, with_any_choices}
use Rattle.c_steps.proofs.plain.plain_step.Goals as goal

pub returns-in-Push : goal.returns-in-Push
returns-in-Push g c =
    with_any_choices c.args.strict c.args.task _ c.args.state.now c.push.new.state c.args.choices.now c.push.result _ c.in-Push.is c.push.ensures refl

pub returns-in-ObjectAt : goal.returns-in-ObjectAt
returns-in-ObjectAt g c =
    with_any_choices c.args.strict c.args.task _ c.args.state.now c.object_at.new.state c.args.choices.now c.object_at.result _ c.in-ObjectAt.is c.object_at.ensures refl

pub returns-in-Shift : goal.returns-in-Shift
returns-in-Shift g c =
    with_any_choices c.args.strict c.args.task _ c.args.state.now c.shift.new.state c.args.choices.now c.shift.result _ c.in-Shift.is c.shift.ensures refl

pub returns-in-Load : goal.returns-in-Load
returns-in-Load g c =
    with_any_choices c.args.strict c.args.task _ c.args.state.now c.load.new.state c.args.choices.now c.load.result _ c.in-Load.is c.load.ensures refl

pub returns-in-Convert : goal.returns-in-Convert
returns-in-Convert g c =
    with_any_choices c.args.strict c.args.task _ c.args.state.now c.convert.new.state c.args.choices.now c.convert.result _ c.in-Convert.is c.convert.ensures refl

pub returns-in-Apply : goal.returns-in-Apply
returns-in-Apply g c =
    with_any_choices c.args.strict c.args.task _ c.args.state.now c.apply.new.state c.args.choices.now c.apply.result _ c.in-Apply.is c.apply.ensures refl

pub returns-in-Operate : goal.returns-in-Operate
returns-in-Operate g c =
    with_any_choices c.args.strict c.args.task _ c.args.state.now c.operate.new.state c.args.choices.now c.operate.result _ c.in-Operate.is c.operate.ensures refl

pub returns-in-Answer : goal.returns-in-Answer
returns-in-Answer g c =
    with_any_choices c.args.strict c.args.task _ c.args.state.now c.answer.new.state c.args.choices.now c.answer.result _ c.in-Answer.is c.answer.ensures refl

pub returns-in-AndThen : goal.returns-in-AndThen
returns-in-AndThen g c =
    with_any_choices c.args.strict c.args.task _ c.args.state.now c.and_then.new.state c.args.choices.now c.and_then.result _ c.in-AndThen.is c.and_then.ensures refl

pub returns-in-OrElse : goal.returns-in-OrElse
returns-in-OrElse g c =
    with_any_choices c.args.strict c.args.task _ c.args.state.now c.or_else.new.state c.args.choices.now c.or_else.result _ c.in-OrElse.is c.or_else.ensures refl

pub returns-in-Drop : goal.returns-in-Drop
returns-in-Drop g c =
    with_any_choices c.args.strict c.args.task _ c.args.state.now c.let_go.new.state c.args.choices.now (Ok c.let_go.result) _ c.in-Drop.is c.let_go.ensures refl

pub returns-in-Store : goal.returns-in-Store
returns-in-Store g c =
    with_any_choices c.args.strict c.args.task _ c.args.state.now c.store.new.state c.args.choices.now c.store.result _ c.in-Store.is c.store.ensures refl

pub returns-in-Update : goal.returns-in-Update
returns-in-Update g c =
    with_any_choices c.args.strict c.args.task _ c.args.state.now c.update.new.state c.args.choices.now c.update.result _ c.in-Update.is c.update.ensures refl

pub returns-in-CountBy : goal.returns-in-CountBy
returns-in-CountBy g c =
    with_any_choices c.args.strict c.args.task _ c.args.state.now c.count_by.new.state c.args.choices.now c.count_by.result _ c.in-CountBy.is c.count_by.ensures refl

pub returns-in-CopyStruct : goal.returns-in-CopyStruct
returns-in-CopyStruct g c =
    with_any_choices c.args.strict c.args.task _ c.args.state.now c.copy_struct.new.state c.args.choices.now c.copy_struct.result _ c.in-CopyStruct.is c.copy_struct.ensures refl

pub returns-in-RunBuiltIn : goal.returns-in-RunBuiltIn
returns-in-RunBuiltIn g c =
    with_choices c.args.strict c.args.task _ c.args.state.now c.run_built_in.new.state c.args.choices.now c.run_built_in.new.choices c.run_built_in.result _ c.in-RunBuiltIn.is c.run_built_in.ensures.ok c.run_built_in.ensures.err refl

pub returns-in-Finish : goal.returns-in-Finish
returns-in-Finish g c =
    with_any_choices c.args.strict c.args.task _ c.args.state.now c.finish.new.state c.args.choices.now c.finish.result _ c.in-Finish.is c.finish.ensures refl

pub returns-in-Keep : goal.returns-in-Keep
returns-in-Keep g c =
    with_any_choices c.args.strict c.args.task _ c.args.state.now c.args.state.now c.args.choices.now c.keep.result _ c.in-Keep.is c.keep.ensures refl

pub returns-in-OpenBlock : goal.returns-in-OpenBlock
returns-in-OpenBlock g c =
    with_any_choices c.args.strict c.args.task _ c.args.state.now c.open_block.new.state c.args.choices.now c.open_block.result _ c.in-OpenBlock.is c.open_block.ensures refl

pub returns-in-MakeObject : goal.returns-in-MakeObject
returns-in-MakeObject g c =
    with_choices c.args.strict c.args.task _ c.args.state.now c.make_object.new.state c.args.choices.now c.make_object.new.choices c.make_object.result _ c.in-MakeObject.is c.make_object.ensures.ok c.make_object.ensures.err refl

pub returns-in-MakeStatic : goal.returns-in-MakeStatic
returns-in-MakeStatic g c =
    with_choices c.args.strict c.args.task _ c.args.state.now c.make_static.new.state c.args.choices.now c.make_static.new.choices c.make_static.result _ c.in-MakeStatic.is c.make_static.ensures.ok c.make_static.ensures.err refl

pub returns-in-LeaveBlock : goal.returns-in-LeaveBlock
returns-in-LeaveBlock g c =
    with_any_choices c.args.strict c.args.task _ c.args.state.now c.leave_block.new.state c.args.choices.now c.leave_block.result _ c.in-LeaveBlock.is c.leave_block.ensures refl

pub returns-in-Zero : goal.returns-in-Zero
returns-in-Zero g c =
    with_any_choices c.args.strict c.args.task _ c.args.state.now c.zero.new.state c.args.choices.now (Ok c.zero.result) _ c.in-Zero.is c.zero.ensures refl

pub returns-in-LeaveFunction : goal.returns-in-LeaveFunction
returns-in-LeaveFunction g c =
    with_any_choices c.args.strict c.args.task _ c.args.state.now c.leave_function.new.state c.args.choices.now c.leave_function.result _ c.in-LeaveFunction.is c.leave_function.ensures refl

pub returns-in-EndOfBody : goal.returns-in-EndOfBody
returns-in-EndOfBody g c =
    with_choices c.args.strict c.args.task _ c.args.state.now c.end_of_body.new.state c.args.choices.now c.end_of_body.new.choices c.end_of_body.result _ c.in-EndOfBody.is c.end_of_body.ensures.ok c.end_of_body.ensures.err refl

pub returns-in-MakeParameter : goal.returns-in-MakeParameter
returns-in-MakeParameter g c =
    with_choices c.args.strict c.args.task _ c.args.state.now c.make_parameter.new.state c.args.choices.now c.make_parameter.new.choices c.make_parameter.result _ c.in-MakeParameter.is c.make_parameter.ensures.ok c.make_parameter.ensures.err refl
