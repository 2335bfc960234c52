use Rattle.items.proofs.tree_walk.NothingElse.{item_result}
use Rattle.items.proofs.tree_walk.walking.item_found.Goals as goal

pub returns-clause-nothing_else : goal.returns-clause-nothing_else
returns-clause-nothing_else c =
    item_result c.args.abi c.args.place c.args.it.now c.args.context.now _ c.item_walked.result c.item_walked.ensures
