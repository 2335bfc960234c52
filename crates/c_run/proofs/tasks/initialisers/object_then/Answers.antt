-- The first token of the object is told of its place.
use Rattle.std.proofs.Common.{[], ◌∷◌, ℕ, refl, subst}
use Rattle.c_machine.specs.declared.task.Task.TheVariants.{ObjectAt}
use Rattle.c_machine.specs.Trees.{text_of}
use Rattle.c_run.specs.tasks.Room.{MakesRoom}
use Rattle.c_run.proofs.tasks.MakingRoom.{on_ok}
use Rattle.c_run.proofs.tasks.RoomBehind.{in_front}
use Rattle.c_run.proofs.tasks.initialisers.object_then.Goals as goal

pub returns : goal.returns
returns c = on_ok _ _ c.alone.result
    (λ room made. λ n p stands fits.
    in_front (ObjectAt ((text_of p).token c.args.place) ∷ []) (c.args.task ∷ []) room c.args.state.now c.do_first.new.self c.alone.new.state
    (c.in_ok-do_first.ensures.ok, fits)
    (subst (λ (token : ℕ). MakesRoom (ObjectAt token ∷ []) room c.do_first.new.self c.alone.new.state) (c.first_token.ensures n p stands) (made refl)))
    c.alone.ensures
