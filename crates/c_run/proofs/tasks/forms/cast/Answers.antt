-- The types of the operand and of the whole.
use Rattle.std.proofs.Common.{[], ◌∷◌, sym, ◌∙◌, refl}
use Rattle.c_machine.specs.declared.kind.Kind.{Kind}
use Rattle.c_machine.specs.declared.task.Task.TheVariants.{Convert, ValueOf}
use Rattle.c_machine.specs.Expressions.{value_kind}
use Rattle.c_machine.specs.Program.{type_of}
use Rattle.c_machine.specs.Trees.{kind_in, text_of}
use Rattle.c_run.proofs.tasks.MakingRoom.{lacks_one, lacks_second, on_ok, room_with_two}
use Rattle.c_run.proofs.tasks.forms.cast.Goals as goal

pub returns-in_default : goal.returns-in_default
returns-in_default c = λ n p stands. lacks_one (value_kind (text_of p) c.args.arg.now) (kind_in p (type_of p c.args.expr.now) ∷ []) (sym c.in_default.is ∙ c.value_kind.ensures n p stands)

pub returns-in_default-kind : goal.returns-in_default-kind
returns-in_default-kind c = λ n p stands. lacks_second (value_kind (text_of p) c.args.arg.now) (kind_in p (type_of p c.args.expr.now)) [] (sym c.in_default-kind.is ∙ c.kind.ensures n p c.args.expr.now stands refl)

pub returns : goal.returns
returns c = on_ok _ _ c.value_then.result
    (λ room made. λ n p stands. room_with_two (λ (one other : Kind). ValueOf c.args.arg.now ∷ Convert one other ∷ []) (value_kind (text_of p) c.args.arg.now) (kind_in p (type_of p c.args.expr.now)) c.in-Some.from
    c.in-Some-kind.to room c.args.state.now c.value_then.new.state (sym c.in-Some.is ∙ c.value_kind.ensures n p stands)
    (sym c.in-Some-kind.is ∙ c.kind.ensures n p c.args.expr.now stands refl) made)
    c.value_then.ensures
