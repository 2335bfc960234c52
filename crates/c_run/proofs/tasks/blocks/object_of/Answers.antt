-- What is told of an automatic object says whether it is made.
use Rattle.std.proofs.Common.{Some, [], ◌∷◌, refl, sym, ap, ◌∙◌}
use Rattle.c_machine.specs.declared.task.Task.TheVariants.{MakeObject}
use Rattle.c_machine.specs.Trees.{name_of, text_of}
use Rattle.c_run.specs.declared.tasks.room.Room.TheVariants.{Made}
use Rattle.c_run.proofs.tasks.BlocksEntered.{large_lacks, no_made, one_made}
use Rattle.c_run.proofs.tasks.MakingRoom.{on_ok, same_room}
use Rattle.c_run.proofs.tasks.blocks.object_of.Goals as goal

pub returns-in-None : goal.returns-in-None
returns-in-None c = λ n p stands. large_lacks (text_of p) ((text_of p).automatic (name_of c.args.name.now).place) (sym c.in-None.is ∙ c.automatic.ensures n p stands)

pub returns-in-Some-None : goal.returns-in-Some-None
returns-in-Some-None c = λ n p stands.
    same_room _ [] Made c.args.state.now c.args.state.now
    (no_made (text_of p) ((text_of p).automatic (name_of c.args.name.now).place)
    (ap Some (sym c.in-Some-None.field-0-is) ∙ sym c.in-Some-None.is ∙ c.automatic.ensures n p stands))
    (refl, refl)

pub returns-in-Some-Some : goal.returns-in-Some-Some
returns-in-Some-Some c = on_ok _ _ c.alone.result
    (λ room made. λ n p stands.
    let one = one_made (text_of p) ((text_of p).automatic (name_of c.args.name.now).place) c.in-Some-Some.object
    (ap Some (sym c.in-Some-Some.field-0-is) ∙ sym c.in-Some-Some.is ∙ c.automatic.ensures n p stands) in
    same_room _ (MakeObject c.in-Some-Some.object ∷ []) room c.args.state.now c.alone.new.state one.0 (made one.1))
    c.alone.ensures
