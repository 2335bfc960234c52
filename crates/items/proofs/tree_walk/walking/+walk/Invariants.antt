use Rattle.items.proofs.tree_walk.walking.+walk.Given as goal

abbrev pub decreases-walk : goal.decreases-walk
decreases-walk l = l.within.depth
