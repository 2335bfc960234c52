-- How many parts there are in parts of trees, they themselves among them.
use Rattle.std.specs.Prelude.{ℕ, ◌+◌, List, [], ◌∷◌}
use Rattle.ctrees.specs.Weight.{init_weight, spec_weight, expr_weight, stmt_weight}
use Rattle.c_machine.specs.Statics.{Node, AnExpr, AStmt, SomeWords, AnInit, counting_all}

abbrev pub weight : Node → ℕ
weight (AnExpr expr) = expr_weight counting_all expr
weight (AStmt stmt) = stmt_weight counting_all stmt
weight (SomeWords spec) = spec_weight counting_all spec
weight (AnInit init) = init_weight counting_all init

abbrev pub weights : List Node → ℕ
weights [] = 0
weights (node ∷ nodes) = weight node + weights nodes
