use Rattle.items.proofs.tree_walk.NothingElse.{nothing_else_result}
use Rattle.items.proofs.tree_walk.walking.statement_found.Goals as goal

pub returns-clause-nothing_else : goal.returns-clause-nothing_else
returns-clause-nothing_else c =
    nothing_else_result c.args.abi c.args.stmt.now c.args.context.now _ c.statement_walked.result c.statement_walked.ensures
