-- What each operator asks of its operand.
use Rattle.std.proofs.Common.{refl, sym, subst}
use Rattle.cbase.specs.declared.tree.operators.UnaryOp.{UnaryOp}
use Rattle.c_machine.specs.Expressions.{value_parts}
use Rattle.c_machine.specs.Text.{Unary}
use Rattle.c_machine.specs.Trees.{text_of}
use Rattle.c_run.specs.tasks.Room.{MakesRoom}
use Rattle.c_run.proofs.tasks.MakingRoom.{on_ok, same_room}
use Rattle.c_run.proofs.tasks.OtherOperators.{other_unary}
use Rattle.c_run.proofs.tasks.operations.unary.Goals as goal

pub returns-in-Not : goal.returns-in-Not
returns-in-Not c = on_ok _ _ c.value_then.result
    (λ room made. λ n p stands. subst
    (λ (op : UnaryOp). MakesRoom (value_parts (text_of p) c.args.expr.now (Unary op c.args.arg.now)) room c.args.state.now c.value_then.new.state)
    (sym c.in-Not.is) (made refl))
    c.value_then.ensures

pub returns-in-Address : goal.returns-in-Address
returns-in-Address c = on_ok _ _ c.address_alone.result
    (λ room made. λ n p stands. subst
    (λ (op : UnaryOp). MakesRoom (value_parts (text_of p) c.args.expr.now (Unary op c.args.arg.now)) room c.args.state.now c.address_alone.new.state)
    (sym c.in-Address.is) made)
    c.address_alone.ensures

pub returns-in-Follow : goal.returns-in-Follow
returns-in-Follow c = on_ok _ _ c.loaded.result
    (λ room made. λ n p stands. subst
    (λ (op : UnaryOp). MakesRoom (value_parts (text_of p) c.args.expr.now (Unary op c.args.arg.now)) room c.args.state.now c.loaded.new.state)
    (sym c.in-Follow.is) (made n p stands))
    c.loaded.ensures

pub returns-in_default : goal.returns-in_default
returns-in_default c = on_ok _ _ c.applied.result
    (λ room made. λ n p stands. same_room _ _ room c.args.state.now c.applied.new.state
    (other_unary (text_of p) c.args.expr.now c.args.arg.now c.args.op c.in_default.not-Address c.in_default.not-Follow c.in_default.not-Not) (made n p stands))
    c.applied.ensures
