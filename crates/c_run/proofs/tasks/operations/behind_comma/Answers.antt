-- The value on the left goes, and then that on the right.
use Rattle.std.proofs.Common.{[], ◌∷◌, refl}
use Rattle.c_machine.specs.declared.task.Task.TheVariants.{Drop, ValueOf}
use Rattle.c_run.proofs.tasks.MakingRoom.{on_ok}
use Rattle.c_run.proofs.tasks.RoomBehind.{in_front}
use Rattle.c_run.proofs.tasks.operations.behind_comma.Goals as goal

pub returns : goal.returns
returns c = on_ok _ _ c.value_then.result
    (λ room made.
    in_front (ValueOf c.args.left.now ∷ Drop ∷ []) (ValueOf c.args.right.now ∷ []) room c.args.state.now c.do_value.new.state c.value_then.new.state
    (c.in_ok-do_value.ensures, refl) (made refl))
    c.value_then.ensures
