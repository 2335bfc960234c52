-- What is told of the object says how it is initialised.
use Rattle.std.proofs.Common.{Some, [], refl, sym, ap, ◌∙◌}
use Rattle.c_run.proofs.tasks.Initialised.{large_declared, none_declared, one_declared}
use Rattle.c_run.specs.declared.tasks.room.Room.TheVariants.{Made}
use Rattle.c_machine.specs.Blocks.{declared_by}
use Rattle.c_machine.specs.Trees.{name_of, text_of}
use Rattle.c_run.proofs.tasks.MakingRoom.{on_ok, same_room}
use Rattle.c_run.proofs.tasks.initialisers.declared_tasks.Goals as goal

pub returns-in-None : goal.returns-in-None
returns-in-None c = on_ok _ _ c.initialised_large.result
    (λ room made. λ n p stands. same_room _ _ room c.args.state.now c.initialised_large.new.state
    (ap (declared_by (text_of p) (name_of c.args.name.now).place ((text_of p).automatic (name_of c.args.name.now).place)) c.in-Some.is)
    (large_declared p (name_of c.args.name.now).place c.in-Some.init room c.args.state.now c.initialised_large.new.state
    ((text_of p).automatic (name_of c.args.name.now).place) (sym c.in-None.is ∙ c.automatic.ensures n p stands) (made p)))
    c.initialised_large.ensures

pub returns-in-Some-None : goal.returns-in-Some-None
returns-in-Some-None c = λ n p stands.
    same_room _ [] Made c.args.state.now c.args.state.now
    (ap (declared_by (text_of p) (name_of c.args.name.now).place ((text_of p).automatic (name_of c.args.name.now).place)) c.in-Some.is
    ∙ none_declared p (name_of c.args.name.now).place c.in-Some.init ((text_of p).automatic (name_of c.args.name.now).place)
    (ap Some (sym c.in-Some-None.field-0-is) ∙ sym c.in-Some-None.is ∙ c.automatic.ensures n p stands))
    (refl, refl)

pub returns-in-Some-Some : goal.returns-in-Some-Some
returns-in-Some-Some c = on_ok _ _ c.initialised_object.result
    (λ room made. λ n p stands. same_room _ _ room c.args.state.now c.initialised_object.new.state
    (ap (declared_by (text_of p) (name_of c.args.name.now).place ((text_of p).automatic (name_of c.args.name.now).place)) c.in-Some.is)
    (one_declared p (name_of c.args.name.now).place c.in-Some.init room c.args.state.now c.initialised_object.new.state
    ((text_of p).automatic (name_of c.args.name.now).place) c.in-Some-Some.object
    (ap Some (sym c.in-Some-Some.field-0-is) ∙ sym c.in-Some-Some.is ∙ c.automatic.ensures n p stands) (made n p stands)))
    c.initialised_object.ensures
