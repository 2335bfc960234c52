-- The type of the value, and that of what is set, twice.
use Rattle.std.proofs.Common.{[], ◌∷◌, ap, refl, sym, ◌∙◌}
use Rattle.c_machine.specs.declared.kind.Kind.{Kind}
use Rattle.c_machine.specs.declared.task.Task.TheVariants.{Convert, Finish, ObjectAt, Shift, Store, ValueOf}
use Rattle.c_machine.specs.Expressions.{value_kind}
use Rattle.c_machine.specs.State.{doing}
use Rattle.c_machine.specs.Trees.{text_of}
use Rattle.c_run.proofs.tasks.MakingRoom.{speaks_of_two, on_ok, three_there, lacks_one}
use Rattle.c_run.proofs.tasks.RoomBehind.{in_front}
use Rattle.c_run.proofs.tasks.initialisers.set_value.Goals as goal

pub returns-in_default : goal.returns-in_default
returns-in_default c = λ n p kind stands is.
    lacks_one (value_kind (text_of p) c.args.value.now) (kind ∷ kind ∷ []) (sym c.in_default.is ∙ c.value_kind.ensures n p stands)

pub returns : goal.returns
returns c = on_ok _ _ c.object_then.result
    (λ room made. λ n p kind stands is.
    in_front (ObjectAt ((text_of p).token c.args.place) ∷ Shift c.args.store.now.offset ∷ []) (ValueOf c.args.value.now ∷ Convert (value_kind (text_of p) c.args.value.now) kind
    ∷ Store c.args.place kind ∷ Finish c.args.after ∷ []) room c.args.state.now c.do_conversion.new.state c.object_then.new.state
    (speaks_of_two (λ (one other : Kind). ValueOf c.args.value.now ∷ Convert one other ∷ Store c.args.place other ∷ Finish c.args.after ∷ [])
    (value_kind (text_of p) c.args.value.now) kind c.in-Some.from c.args.store.now.kind c.args.state.now c.do_conversion.new.state
    (sym c.in-Some.is ∙ c.value_kind.ensures n p stands) is (three_there (value_kind (text_of p) c.args.value.now) kind)
    (c.in_ok-do_conversion.ensures
    ∙ ap (doing (ValueOf c.args.value.now ∷ Convert c.in-Some.from c.args.store.now.kind ∷ Store c.args.place c.args.store.now.kind ∷ []))
    c.in_ok-do_first.ensures.ok))
    (made n p stands refl))
    c.object_then.ensures
