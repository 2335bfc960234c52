-- The type of the value, and that of the left side, twice.
use Rattle.std.proofs.Common.{[], ◌∷◌, sym, ◌∙◌, refl}
use Rattle.c_machine.specs.declared.kind.Kind.{Kind}
use Rattle.c_machine.specs.declared.task.Task.TheVariants.{AddressOf, Convert, Store, ValueOf}
use Rattle.c_machine.specs.Expressions.{value_kind}
use Rattle.c_machine.specs.Program.{type_of}
use Rattle.c_machine.specs.Trees.{kind_in, text_of}
use Rattle.c_run.proofs.tasks.MakingRoom.{lacks_one, lacks_second, on_ok, speaks_of_two, three_there}
use Rattle.c_run.proofs.tasks.RoomBehind.{in_front}
use Rattle.c_run.proofs.tasks.assignments.stored.Goals as goal

pub returns-in_default : goal.returns-in_default
returns-in_default c = λ n p stands. lacks_one (value_kind (text_of p) c.args.right.now) (kind_in p (type_of p c.args.left.now) ∷ kind_in p (type_of p c.args.left.now) ∷ []) (sym c.in_default.is ∙ c.value_kind.ensures n p stands)

pub returns-in_default-kind : goal.returns-in_default-kind
returns-in_default-kind c = λ n p stands. lacks_second (value_kind (text_of p) c.args.right.now) (kind_in p (type_of p c.args.left.now)) (kind_in p (type_of p c.args.left.now) ∷ []) (sym c.in_default-kind.is ∙ c.kind.ensures n p c.args.left.now stands refl)

pub returns : goal.returns
returns c = on_ok _ _ c.address_alone.result
    (λ room made. λ n p stands.
    in_front (AddressOf c.args.left.now ∷ []) (ValueOf c.args.right.now ∷ Convert (value_kind (text_of p) c.args.right.now) (kind_in p (type_of p c.args.left.now)) ∷ Store c.args.left.now.place (kind_in p (type_of p c.args.left.now)) ∷ []) room c.args.state.now c.do_conversion.new.state c.address_alone.new.state
    (speaks_of_two (λ (one other : Kind). ValueOf c.args.right.now ∷ Convert one other ∷ Store c.args.left.now.place other ∷ []) (value_kind (text_of p) c.args.right.now) (kind_in p (type_of p c.args.left.now)) c.in-Some.from c.in-Some-kind.to c.args.state.now c.do_conversion.new.state
    (sym c.in-Some.is ∙ c.value_kind.ensures n p stands) (sym c.in-Some-kind.is ∙ c.kind.ensures n p c.args.left.now stands refl)
    (three_there (value_kind (text_of p) c.args.right.now) (kind_in p (type_of p c.args.left.now)))
    c.in_ok-do_conversion.ensures)
    made)
    c.address_alone.ensures
