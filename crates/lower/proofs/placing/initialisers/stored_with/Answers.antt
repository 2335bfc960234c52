-- The line that is set.
use Rattle.std.proofs.Common.{subst, ◌+◌}
use Rattle.cbase.specs.declared.tree.expr.Expr.{Expr}
use Rattle.cbase.specs.declared.tree.init.Init.{Init}
use Rattle.cbase.specs.declared.tree.stmt.Stmt.{Stmt}
use Rattle.lower.specs.Built.{made_of}
use Rattle.lowering.specs.Moves.{taking}
use Rattle.lowering.specs.Told.{IsLine}
use Rattle.lowering.proofs.Onward.{on_ok}
use Rattle.lower.proofs.LinesPlaced.{Moves, same_set, taken_leads}
use Rattle.lower.proofs.placing.initialisers.stored_with.Goals as goal

pub returns : goal.returns
returns c = on_ok c.push.result
    (λ is_new. λ p around.
    taken_leads p around c.args.levels c.args.from c.args.to c.args.jobs.now c.push.new.self (made_of c.args.builder.now) _ c.set_line.new.registers c.new-moves.result c.set_line.new.line
    c.new-moves.ensures
    (subst (λ (moves : Moves). IsLine (taking (c.args.count + 3) moves) c.args.builder.now.registers c.set_line.new.registers c.new-moves.result c.set_line.new.line)
    (same_set p c.args.found c.args.place c.args.value.now c.args.end (record { offset = c.args.bytes; kind = c.args.kind.now }) c.args.builder.now.registers c.args.count)
    c.in_ok-set_line.ensures)
    is_new)
    c.push.ensures.ok
