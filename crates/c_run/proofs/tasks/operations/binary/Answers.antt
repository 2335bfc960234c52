-- What each operator asks of its operands.
use Rattle.std.proofs.Common.{[], ◌∷◌, refl, sym, subst}
use Rattle.cbase.specs.declared.tree.expr.Expr.{Expr}
use Rattle.cbase.specs.declared.tree.operators.BinaryOp.{BinaryOp}
use Rattle.c_machine.specs.declared.task.Task.TheVariants.{AndThen, OrElse, ValueOf}
use Rattle.c_machine.specs.Expressions.{value_parts}
use Rattle.c_machine.specs.Text.{Binary}
use Rattle.c_machine.specs.Trees.{text_of}
use Rattle.c_run.specs.tasks.Room.{MakesRoom}
use Rattle.c_run.proofs.tasks.MakingRoom.{on_ok, same_room}
use Rattle.c_run.proofs.tasks.OtherOperators.{other_binary}
use Rattle.c_run.proofs.tasks.operations.binary.Goals as goal

pub returns-in-Both : goal.returns-in-Both
returns-in-Both c = on_ok _ _ c.value_then.result
    (λ room made. λ n p stands. subst
    (λ (op : BinaryOp). MakesRoom (value_parts (text_of p) c.args.expr.now (Binary op c.args.left.now c.args.right.now)) room c.args.state.now c.value_then.new.state)
    (sym c.in-Both.is)
    (subst (λ (right : Expr). MakesRoom (ValueOf c.args.left.now ∷ AndThen right ∷ []) room c.args.state.now c.value_then.new.state) c.of.ensures (made refl)))
    c.value_then.ensures

pub returns-in-Either : goal.returns-in-Either
returns-in-Either c = on_ok _ _ c.value_then-in-Either.result
    (λ room made. λ n p stands. subst
    (λ (op : BinaryOp). MakesRoom (value_parts (text_of p) c.args.expr.now (Binary op c.args.left.now c.args.right.now)) room c.args.state.now c.value_then-in-Either.new.state)
    (sym c.in-Either.is)
    (subst (λ (right : Expr). MakesRoom (ValueOf c.args.left.now ∷ OrElse right ∷ []) room c.args.state.now c.value_then-in-Either.new.state) c.of-in-Either.ensures (made refl)))
    c.value_then-in-Either.ensures

pub returns-in-Comma : goal.returns-in-Comma
returns-in-Comma c = on_ok _ _ c.behind_comma.result
    (λ room made. λ n p stands. subst
    (λ (op : BinaryOp). MakesRoom (value_parts (text_of p) c.args.expr.now (Binary op c.args.left.now c.args.right.now)) room c.args.state.now c.behind_comma.new.state)
    (sym c.in-Comma.is) made)
    c.behind_comma.ensures

pub returns-in_default : goal.returns-in_default
returns-in_default c = on_ok _ _ c.operated.result
    (λ room made. λ n p stands. same_room _ _ room c.args.state.now c.operated.new.state
    (other_binary (text_of p) c.args.left.now c.args.right.now c.args.op c.in_default.not-Both c.in_default.not-Either c.in_default.not-Comma) (made n p stands))
    c.operated.ensures
