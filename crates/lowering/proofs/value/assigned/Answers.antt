-- The kinds of both sides say which line.
use Rattle.std.proofs.Common.{Option, sym, subst}
use Rattle.cbase.specs.declared.tree.operators.BinaryOp.{BinaryOp}
use Rattle.lowering.specs.Reading.{IsAssignedLine}
use Rattle.lowering.proofs.Lines.{assign_is, update_is}
use Rattle.lowering.proofs.Onward.{on_ok}
use Rattle.lowering.proofs.value.assigned.Goals as goal

pub returns-in-None : goal.returns-in-None
returns-in-None c = on_ok c.assign_line.result
    (λ is. subst (λ (op : Option BinaryOp). IsAssignedLine c.args.source.now.context c.args.expr.now op c.args.left.now c.args.right.now c.args.spare c.args.kept
    c.args.registers.now c.assign_line.new.registers c.args.line.now c.assign_line.new.line) (sym c.in-None.is)
    (assign_is _ _ _ _ _ _ _ _ _ _ _ c.in_ok-own.ensures is))
    c.assign_line.ensures

pub returns-in_ok-other-in-Some : goal.returns-in_ok-other-in-Some
returns-in_ok-other-in-Some c = on_ok c.update_line.result
    (λ is. subst (λ (op : Option BinaryOp). IsAssignedLine c.args.source.now.context c.args.expr.now op c.args.left.now c.args.right.now c.args.spare c.args.kept
    c.args.registers.now c.update_line.new.registers c.args.line.now c.update_line.new.line) (sym c.in-Some.is)
    (update_is _ _ _ _ _ _ _ _ _ _ _ _ _ c.in_ok-own.ensures c.in_ok-other-in-Some.ensures is))
    c.update_line.ensures
