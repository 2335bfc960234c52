-- The body of a loop is a scope of its own, and behind it the place lies in a loop or not as before.
use Rattle.items.proofs.statements.Scopes.{loop_walked}
use Rattle.items.proofs.statements.loops.loop_body.Goals as goal

pub returns : goal.returns
returns g c = loop_walked c.args.checker.now.abi c.args.body.now c.is_in_loop-in_loop.result c.args.context.now c.enter.new.self c.set_loop.new.self c.ask_statement.new.context c.leave.new.self c.set_loop-2.new.self
    c.in_ok-found.found c.is_in_loop-in_loop.ensures c.in_ok-enter.ensures.ok c.set_loop.ensures c.leave.ensures c.set_loop-2.ensures c.in_ok-found.ensures
