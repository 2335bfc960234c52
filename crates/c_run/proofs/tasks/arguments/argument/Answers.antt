-- The types of the argument and of its parameter.
use Rattle.std.proofs.Common.{[], ◌∷◌, sym, ap, ◌∙◌}
use Rattle.std.specs.Prelude.{option_and_then}
use Rattle.cbase.specs.declared.ctype.CType.{CType}
use Rattle.c_machine.specs.declared.kind.Kind.{Kind}
use Rattle.c_machine.specs.declared.task.Task.TheVariants.{Convert, ValueOf}
use Rattle.c_machine.specs.Expressions.{value_kind}
use Rattle.c_machine.specs.Trees.{kind_in, text_of}
use Rattle.c_text.specs.Kept.{kept}
use Rattle.c_run.proofs.tasks.MakingRoom.{lacks_one, lacks_second, on_ok, room_with_two}
use Rattle.c_run.proofs.tasks.arguments.argument.Goals as goal

pub returns-in_default : goal.returns-in_default
returns-in_default c = λ n p param stands there.
    lacks_one (value_kind (text_of p) c.args.arg.now) (kind_in p param ∷ []) (sym c.in_default.is ∙ c.value_kind.ensures n p stands)

pub returns-in_default-parameter_kind : goal.returns-in_default-parameter_kind
returns-in_default-parameter_kind c = λ n p param stands there.
    lacks_second (value_kind (text_of p) c.args.arg.now) (kind_in p param) []
    (sym c.in_default-parameter_kind.is ∙ c.parameter_kind.ensures n p stands ∙ ap (option_and_then (λ (t : CType). kept (kind_in p t))) there)

pub returns : goal.returns
returns c = on_ok _ _ c.value_then.result
    (λ room made. λ n p param stands there. room_with_two (λ (one other : Kind). ValueOf c.args.arg.now ∷ Convert one other ∷ []) (value_kind (text_of p) c.args.arg.now) (kind_in p param)
    c.in-Some.from c.in-Some-parameter_kind.to room c.args.state.now c.value_then.new.state (sym c.in-Some.is ∙ c.value_kind.ensures n p stands)
    (sym c.in-Some-parameter_kind.is ∙ c.parameter_kind.ensures n p stands ∙ ap (option_and_then (λ (t : CType). kept (kind_in p t))) there) made)
    c.value_then.ensures
