use Rattle.std.proofs.Common.{◌≤◌, arith}
use Rattle.items.proofs.tree_walk.Levels.{one_level}
use Rattle.items.proofs.tree_walk.walking.levels_below.Goals as goal

pub overflow_sub-result : goal.overflow_sub-result
overflow_sub-result c = one_level c.args.part c.args.depth c.requires

pub returns : goal.returns
returns c = let level : 1 ≤ c.args.depth = one_level c.args.part c.args.depth c.requires in omega arith
