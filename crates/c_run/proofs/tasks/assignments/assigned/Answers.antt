-- `=` has no operation.
use Rattle.std.proofs.Common.{Option, subst, sym}
use Rattle.cbase.specs.declared.tree.operators.BinaryOp.{BinaryOp}
use Rattle.c_machine.specs.Expressions.{value_parts}
use Rattle.c_machine.specs.Text.{Assign}
use Rattle.c_machine.specs.Trees.{text_of}
use Rattle.c_run.specs.tasks.Room.{MakesRoom}
use Rattle.c_run.proofs.tasks.MakingRoom.{on_ok}
use Rattle.c_run.proofs.tasks.assignments.assigned.Goals as goal

pub returns-in-None : goal.returns-in-None
returns-in-None c = on_ok _ _ c.set.result
    (λ room made. λ n p stands. subst
    (λ (op : Option BinaryOp). MakesRoom (value_parts (text_of p) c.args.expr.now (Assign op c.args.left.now c.args.right.now)) room c.args.state.now c.set.new.state)
    (sym c.in-None.is) (made n p stands))
    c.set.ensures
