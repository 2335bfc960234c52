use Rattle.std.proofs.Common.{map}
use Rattle.ctrees.specs.Levels.{depth, init_part_levels}
use Rattle.ctrees.specs.Weight.{joined}
use Rattle.items.proofs.initialisers.surplus.+first_value.Given as goal

abbrev pub decreases-first_value : goal.decreases-first_value
decreases-first_value l = joined depth (map init_part_levels l.parts.now)
