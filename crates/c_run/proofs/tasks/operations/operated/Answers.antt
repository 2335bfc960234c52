-- The types of both operands.
use Rattle.std.proofs.Common.{[], ◌∷◌, sym, ◌∙◌, subst, refl}
use Rattle.cbase.specs.declared.tree.expr.Expr.{Expr}
use Rattle.c_machine.specs.declared.kind.Kind.{Kind}
use Rattle.c_machine.specs.declared.task.Task.TheVariants.{Operate, ValueOf}
use Rattle.c_machine.specs.Expressions.{value_kind}
use Rattle.c_machine.specs.Trees.{text_of}
use Rattle.c_run.specs.tasks.Room.{MakesRoom}
use Rattle.c_run.proofs.tasks.MakingRoom.{lacks_one, lacks_second, on_ok, speaks_of_two, two_there}
use Rattle.c_run.proofs.tasks.RoomBehind.{in_front}
use Rattle.c_run.proofs.tasks.operations.operated.Goals as goal

pub returns-in_default : goal.returns-in_default
returns-in_default c = λ n p stands. lacks_one (value_kind (text_of p) c.args.left.now) (value_kind (text_of p) c.args.right.now ∷ []) (sym c.in_default.is ∙ c.value_kind.ensures n p stands)

pub returns-in_default-value_kind : goal.returns-in_default-value_kind
returns-in_default-value_kind c = λ n p stands. lacks_second (value_kind (text_of p) c.args.left.now) (value_kind (text_of p) c.args.right.now) [] (sym c.in_default-value_kind.is ∙ c.value_kind-2.ensures n p stands)

pub returns : goal.returns
returns c = on_ok _ _ c.value_then.result
    (λ room made. λ n p stands.
    in_front (ValueOf c.args.left.now ∷ ValueOf c.args.right.now ∷ []) (Operate c.args.op (value_kind (text_of p) c.args.left.now) (value_kind (text_of p) c.args.right.now) ∷ []) room c.args.state.now c.do_first.new.self c.value_then.new.state
    (speaks_of_two (λ (one other : Kind). Operate c.args.op one other ∷ []) (value_kind (text_of p) c.args.left.now) (value_kind (text_of p) c.args.right.now) c.in-Some.one c.in-Some-value_kind.other
    c.args.state.now c.do_first.new.self (sym c.in-Some.is ∙ c.value_kind.ensures n p stands) (sym c.in-Some-value_kind.is ∙ c.value_kind-2.ensures n p stands)
    (two_there (value_kind (text_of p) c.args.left.now) (value_kind (text_of p) c.args.right.now)) c.in_ok-do_first.ensures.ok)
    (subst (λ (right : Expr). MakesRoom (ValueOf c.args.left.now ∷ ValueOf right ∷ []) room c.do_first.new.self c.value_then.new.state) c.of.ensures (made refl)))
    c.value_then.ensures
