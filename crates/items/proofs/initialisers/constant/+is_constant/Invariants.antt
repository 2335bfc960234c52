use Rattle.ctrees.specs.Levels.{expr_levels}
use Rattle.items.proofs.initialisers.constant.+is_constant.Given as goal

abbrev pub decreases-is_constant : goal.decreases-is_constant
decreases-is_constant l = expr_levels l.expr.now
