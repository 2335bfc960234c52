-- One type, of the whole.
use Rattle.std.proofs.Common.{[], ◌∷◌, sym, ◌∙◌, subst}
use Rattle.cbase.specs.declared.tree.expr.Expr.{Expr}
use Rattle.c_machine.specs.declared.kind.Kind.{Kind}
use Rattle.c_machine.specs.declared.task.Task.TheVariants.{Pick, ValueOf}
use Rattle.c_machine.specs.Expressions.{value_kind}
use Rattle.c_machine.specs.Trees.{text_of}
use Rattle.c_run.specs.tasks.Room.{MakesRoom}
use Rattle.c_run.proofs.tasks.MakingRoom.{lacks_one, on_ok, room_with_one}
use Rattle.c_run.proofs.tasks.forms.chosen.Goals as goal

pub returns-in_default : goal.returns-in_default
returns-in_default c = λ n p stands. lacks_one (value_kind (text_of p) c.args.expr.now) [] (sym c.in_default.is ∙ c.value_kind.ensures n p stands)

pub returns : goal.returns
returns c = on_ok _ _ c.value_then.result
    (λ room made. λ n p stands. room_with_one (λ (kind : Kind). ValueOf c.args.test.now ∷ Pick kind c.args.one.now c.args.other.now ∷ []) (value_kind (text_of p) c.args.expr.now) c.in-Some.kind room
    c.args.state.now c.value_then.new.state (sym c.in-Some.is ∙ c.value_kind.ensures n p stands)
    (λ fits.
    subst (λ (one : Expr). MakesRoom (ValueOf c.args.test.now ∷ Pick c.in-Some.kind one c.args.other.now ∷ []) room c.args.state.now c.value_then.new.state) c.of.ensures
    (subst (λ (other : Expr). MakesRoom (ValueOf c.args.test.now ∷ Pick c.in-Some.kind c.of.result other ∷ []) room c.args.state.now c.value_then.new.state) c.of-2.ensures
    (made fits))))
    c.value_then.ensures
