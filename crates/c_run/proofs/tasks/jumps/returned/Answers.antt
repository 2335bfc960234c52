-- Without a value nothing is given back.
use Rattle.std.proofs.Common.{[], ◌∷◌, ap, refl}
use Rattle.c_machine.specs.declared.kind.Kind.TheVariants.{Void}
use Rattle.c_machine.specs.declared.task.Task.TheVariants.{GiveBack, Push}
use Rattle.c_machine.specs.Statements.{return_tasks}
use Rattle.c_machine.specs.Trees.{text_of}
use Rattle.c_run.proofs.tasks.MakingRoom.{on_ok, same_room}
use Rattle.c_run.proofs.tasks.RoomBehind.{in_front}
use Rattle.c_run.proofs.tasks.jumps.returned.Goals as goal

pub returns-in_ok-do_first-in-None : goal.returns-in_ok-do_first-in-None
returns-in_ok-do_first-in-None c = on_ok _ _ c.alone.result
    (λ room made. λ n p stands. same_room _ _ room c.args.state.now c.alone.new.state (ap (return_tasks (text_of p) c.args.word) c.in-None.is)
    (in_front (Push 0 ∷ []) (GiveBack c.args.word Void ∷ []) room c.args.state.now c.do_first.new.self c.alone.new.state (c.in_ok-do_first-in-None.ensures.ok, refl) (made refl)))
    c.alone.ensures
