-- A statement in an `if` is a scope of its own.
use Rattle.items.proofs.statements.Scopes.{branch_walked}
use Rattle.items.proofs.statements.blocks.branch.Goals as goal

pub returns : goal.returns
returns g c = branch_walked c.args.checker.now.abi c.args.stmt.now c.args.context.now c.enter.new.self c.ask_statement.new.context c.leave.new.self c.in_ok-found.found
    c.in_ok-enter.ensures.ok c.leave.ensures c.in_ok-found.ensures
