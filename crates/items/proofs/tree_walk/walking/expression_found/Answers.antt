use Rattle.expressions.proofs.NothingElse.{nothing_else_result}
use Rattle.items.proofs.tree_walk.walking.expression_found.Goals as goal

pub returns-clause-nothing_else : goal.returns-clause-nothing_else
returns-clause-nothing_else c =
    nothing_else_result c.args.abi c.args.expr.now c.args.context.now _ c.expression_walked.result c.expression_walked.ensures
