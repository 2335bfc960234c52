-- What is told of the store of a value says what it sets.
use Rattle.std.proofs.Common.{Some, [], ◌∷◌, ◌++◌, sym, ap, ◌∙◌}
use Rattle.c_machine.specs.declared.task.Task.TheVariants.{AddressOf, CopyStruct, Finish, ObjectAt, Shift}
use Rattle.c_machine.specs.Trees.{text_of}
use Rattle.c_run.proofs.tasks.Initialised.{set_copies, set_lacks, set_some, set_stores, set_unknown}
use Rattle.c_run.proofs.tasks.MakingRoom.{Tasks, on_ok, same_room}
use Rattle.c_run.proofs.tasks.initialisers.set.Goals as goal

pub returns-in-None : goal.returns-in-None
returns-in-None c = λ n p stands.
    set_lacks p c.args.place c.args.after c.args.value.now ((text_of p).store c.args.place c.args.value.now) (sym c.in-None.is ∙ c.store.ensures n p stands)

pub returns-in-Some-None : goal.returns-in-Some-None
returns-in-Some-None c = on_ok _ _ c.unknown.result
    (λ room made. λ n p stands. same_room _ _ room c.args.state.now c.unknown.new.state
    (set_unknown p c.args.place c.args.after c.args.value.now ((text_of p).store c.args.place c.args.value.now)
    (ap Some (sym c.in-Some-None.field-0-is) ∙ sym c.in-Some-None.is ∙ c.store.ensures n p stands))
    made)
    c.unknown.ensures

pub returns-in-None-struct_bytes : goal.returns-in-None-struct_bytes
returns-in-None-struct_bytes c = on_ok _ _ c.set_value.result
    (λ room made. λ n p stands. set_some p c.args.place c.args.after c.args.value.now room c.args.state.now c.set_value.new.state
    ((text_of p).store c.args.place c.args.value.now) c.in-Some-Some.store
    (ap Some (sym c.in-Some-Some.field-0-is) ∙ sym c.in-Some-Some.is ∙ c.store.ensures n p stands)
    (λ kind is. same_room _ _ room c.args.state.now c.set_value.new.state
    (ap (λ (tasks : Tasks). ObjectAt ((text_of p).token c.args.place) ∷ Shift c.in-Some-Some.store.offset ∷ (tasks ++ Finish c.args.after ∷ []))
    (set_stores p c.args.place c.args.value.now kind c.in-Some-Some.store.kind is (sym c.in-None-struct_bytes.is ∙ c.struct_bytes.ensures)))
    (made n p kind stands is)))
    c.set_value.ensures

pub returns-in-Some : goal.returns-in-Some
returns-in-Some c = on_ok _ _ c.set_struct.result
    (λ room made. λ n p stands. set_some p c.args.place c.args.after c.args.value.now room c.args.state.now c.set_struct.new.state
    ((text_of p).store c.args.place c.args.value.now) c.in-Some-Some.store
    (ap Some (sym c.in-Some-Some.field-0-is) ∙ sym c.in-Some-Some.is ∙ c.store.ensures n p stands)
    (λ kind is.
    let copied = set_copies p c.args.place c.args.value.now kind c.in-Some-Some.store.kind c.in-Some.bytes is (sym c.in-Some.is ∙ c.struct_bytes.ensures) in
    same_room _ (ObjectAt ((text_of p).token c.args.place) ∷ Shift c.in-Some-Some.store.offset ∷ AddressOf c.args.value.now ∷ CopyStruct c.args.place c.in-Some.bytes
    ∷ Finish c.args.after ∷ []) room c.args.state.now c.set_struct.new.state
    (ap (λ (tasks : Tasks). ObjectAt ((text_of p).token c.args.place) ∷ Shift c.in-Some-Some.store.offset ∷ (tasks ++ Finish c.args.after ∷ [])) copied.0)
    (made n p stands copied.1)))
    c.set_struct.ensures
