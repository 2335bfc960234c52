-- Main is called where the sizes of its objects are kept.
use Rattle.c_machine.specs.Run.{main_tasks}
use Rattle.c_machine.specs.Trees.{function_as, text_of}
use Rattle.c_run.specs.declared.tasks.room.Room.TheVariants.{Made, NotKept}
use Rattle.c_run.proofs.Rooms.{that_room}
use Rattle.c_run.proofs.beginning.call_main.Goals as goal

pub returns-in-Made : goal.returns-in-Made
returns-in-Made c = λ n p stands.
    that_room (main_tasks (text_of p) (function_as p c.args.main.now)) c.in_ok-main_tasks.field-0 Made c.args.state.now c.main_tasks.new.state c.in-Made.is (c.in_ok-main_tasks.ensures n p stands)

pub returns-in-NotKept : goal.returns-in-NotKept
returns-in-NotKept c = λ n p stands.
    that_room (main_tasks (text_of p) (function_as p c.args.main.now)) c.in_ok-main_tasks.field-0 NotKept c.args.state.now c.main_tasks.new.state c.in-NotKept.is (c.in_ok-main_tasks.ensures n p stands)
