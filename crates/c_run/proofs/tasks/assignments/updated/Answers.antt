-- The types of both sides.
use Rattle.std.proofs.Common.{[], ◌∷◌, sym, ◌∙◌, subst, refl}
use Rattle.cbase.specs.declared.tree.expr.Expr.{Expr}
use Rattle.c_machine.specs.declared.kind.Kind.{Kind}
use Rattle.c_machine.specs.declared.task.Task.TheVariants.{AddressOf, Update, ValueOf}
use Rattle.c_machine.specs.Expressions.{value_kind}
use Rattle.c_machine.specs.Program.{type_of}
use Rattle.c_machine.specs.Trees.{kind_in, text_of}
use Rattle.c_run.specs.tasks.Room.{MakesRoom}
use Rattle.c_run.proofs.tasks.MakingRoom.{lacks_one, lacks_second, on_ok, speaks_of_two, two_there}
use Rattle.c_run.proofs.tasks.RoomBehind.{in_front}
use Rattle.c_run.proofs.tasks.assignments.updated.Goals as goal

pub returns-in_default : goal.returns-in_default
returns-in_default c = λ n p stands. lacks_one (kind_in p (type_of p c.args.left.now)) (value_kind (text_of p) c.args.right.now ∷ []) (sym c.in_default.is ∙ c.kind.ensures n p c.args.left.now stands refl)

pub returns-in_default-value_kind : goal.returns-in_default-value_kind
returns-in_default-value_kind c = λ n p stands. lacks_second (kind_in p (type_of p c.args.left.now)) (value_kind (text_of p) c.args.right.now) [] (sym c.in_default-value_kind.is ∙ c.value_kind.ensures n p stands)

pub returns : goal.returns
returns c = on_ok _ _ c.address_then.result
    (λ room made. λ n p stands.
    in_front (AddressOf c.args.left.now ∷ ValueOf c.args.right.now ∷ []) (Update c.args.op c.args.left.now.place (kind_in p (type_of p c.args.left.now)) (value_kind (text_of p) c.args.right.now) ∷ []) room c.args.state.now c.do_first.new.self c.address_then.new.state
    (speaks_of_two (λ (one other : Kind). Update c.args.op c.args.left.now.place one other ∷ []) (kind_in p (type_of p c.args.left.now)) (value_kind (text_of p) c.args.right.now) c.in-Some.kind c.in-Some-value_kind.other
    c.args.state.now c.do_first.new.self (sym c.in-Some.is ∙ c.kind.ensures n p c.args.left.now stands refl) (sym c.in-Some-value_kind.is ∙ c.value_kind.ensures n p stands)
    (two_there (kind_in p (type_of p c.args.left.now)) (value_kind (text_of p) c.args.right.now)) c.in_ok-do_first.ensures.ok)
    (subst (λ (right : Expr). MakesRoom (AddressOf c.args.left.now ∷ ValueOf right ∷ []) room c.do_first.new.self c.address_then.new.state) c.of.ensures (made refl)))
    c.address_then.ensures
