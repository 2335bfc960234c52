-- The address stands in front.
use Rattle.std.proofs.Common.{[], ◌∷◌}
use Rattle.c_machine.specs.declared.task.Task.TheVariants.{AddressOf}
use Rattle.c_run.proofs.tasks.MakingRoom.{on_ok}
use Rattle.c_run.proofs.tasks.RoomBehind.{in_front}
use Rattle.c_run.proofs.tasks.pushes.address_then.Goals as goal

pub returns : goal.returns
returns c = on_ok _ _ c.address_alone.result
    (λ room made. λ fits.
    in_front (AddressOf c.args.expr.now ∷ []) (c.args.task ∷ []) room c.args.state.now c.do_first.new.self c.address_alone.new.state (c.in_ok-do_first.ensures.ok, fits) made)
    c.address_alone.ensures
