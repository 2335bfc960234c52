-- The first condition of `&&` and of `||`.
use Rattle.std.specs.Prelude.{ℕ, Bool, true, false}
use Rattle.cbase.specs.declared.tree.expr.Expr.{Expr}
use Rattle.cbase.specs.declared.tree.init.Init.{Init}
use Rattle.cbase.specs.declared.tree.stmt.Stmt.{Stmt}
use Rattle.lowering.specs.declared.moves.Move.{Move as MoveOf}
use Rattle.lowering.specs.declared.moves.Move.TheVariants.{Asks}

-- it leads early to a point where it does not hold, or where it holds
abbrev pub first_test : Bool → Expr → ℕ → ℕ → ℕ → MoveOf Expr Stmt Init
first_test true left spare early between = Asks left spare early between
first_test false left spare early between = Asks left spare between early
