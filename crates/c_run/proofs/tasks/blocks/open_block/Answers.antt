-- The block begins in front of its objects.
use Rattle.std.proofs.Common.{[], ◌∷◌, refl, subst}
use Rattle.c_machine.specs.declared.task.Task.TheVariants.{OpenBlock}
use Rattle.c_machine.specs.Blocks.{entered}
use Rattle.c_machine.specs.Trees.{text_of}
use Rattle.c_run.specs.declared.tasks.room.Room.{Room}
use Rattle.c_run.specs.tasks.Room.{MakesRoom}
use Rattle.c_run.proofs.tasks.MakingRoom.{on_ok}
use Rattle.c_run.proofs.tasks.RoomBehind.{in_front}
use Rattle.c_run.proofs.tasks.blocks.open_block.Goals as goal

pub returns-in-NotKept : goal.returns-in-NotKept
returns-in-NotKept c = λ n p stands.
    subst (λ (room : Room). MakesRoom (entered (text_of p) c.args.body.now) room c.args.state.now c.entered.new.state) c.in-NotKept.is
    (c.in_ok-entered.ensures n p stands)

pub returns-in-Made : goal.returns-in-Made
returns-in-Made c = on_ok _ _ c.alone.result
    (λ room made. λ n p stands.
    in_front (OpenBlock ∷ []) (entered (text_of p) c.args.body.now) room c.args.state.now c.entered.new.state c.alone.new.state
    (subst (λ (room : Room). MakesRoom (entered (text_of p) c.args.body.now) room c.args.state.now c.entered.new.state) c.in-Made.is (c.in_ok-entered.ensures n p stands))
    (made refl))
    c.alone.ensures
