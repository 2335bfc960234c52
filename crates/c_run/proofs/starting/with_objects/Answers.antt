-- A block with the parameters, whose sizes are kept, in front of the body.
use Rattle.std.proofs.Common.{[], ◌∷◌, ◌++◌, map, refl, ap, ◌∙◌}
use Rattle.c_machine.specs.declared.task.Task.TheVariants.{MakeObject, OpenBlock}
use Rattle.c_machine.specs.Calls.{body_tasks}
use Rattle.c_machine.specs.State.{doing}
use Rattle.c_machine.specs.Trees.{function_as, text_of}
use Rattle.c_run.specs.declared.tasks.room.Room.TheVariants.{Made, NotKept}
use Rattle.c_run.proofs.CallsMade.{opened}
use Rattle.c_run.proofs.Rooms.{in_front, not_behind, objects_kept, same_room, that_room}
use Rattle.c_run.proofs.starting.with_objects.Goals as goal

pub returns-in-NotKept : goal.returns-in-NotKept
returns-in-NotKept c = λ n p stands fit are.
    let function = function_as p c.args.main.now in
    let inner = body_tasks (text_of p) function 0 in
    same_room ((OpenBlock ∷ map MakeObject c.args.params.now) ++ inner) _ NotKept c.args.state.now c.args.state.now
    (opened MakeObject function.params c.args.params.now inner are)
    (not_behind (OpenBlock ∷ map MakeObject c.args.params.now) inner c.args.state.now c.args.state.now c.args.state.now
    (that_room inner c.in_ok-body_tasks.field-0 NotKept c.args.state.now c.body_tasks.new.state c.in-NotKept.is (c.in_ok-body_tasks.ensures n p stands)))

pub returns-in_ok-do_first-in-Made : goal.returns-in_ok-do_first-in-Made
returns-in_ok-do_first-in-Made c = λ n p stands fit are.
    let function = function_as p c.args.main.now in
    let inner = body_tasks (text_of p) function 0 in
    same_room ((OpenBlock ∷ map MakeObject c.args.params.now) ++ inner) _ Made c.args.state.now c.do_first.new.self
    (opened MakeObject function.params c.args.params.now inner are)
    (in_front (OpenBlock ∷ map MakeObject c.args.params.now) inner Made c.args.state.now c.body_tasks.new.state c.do_first.new.self
    (c.in_ok-do_first-in-Made.ensures.ok ∙ ap (doing (OpenBlock ∷ [])) c.in_ok-make_objects-in-Made.ensures, objects_kept MakeObject c.args.params.now (λ object. refl) ∙ fit)
    (that_room inner c.in_ok-body_tasks.field-0 Made c.args.state.now c.body_tasks.new.state c.in-Made.is (c.in_ok-body_tasks.ensures n p stands)))
