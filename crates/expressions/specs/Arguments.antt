-- The arguments of a call as code keeps them: their expressions, and what is known of each.
use Rattle.std.specs.Prelude.{List, [], ◌∷◌}
use Rattle.cbase.specs.declared.structs.StructDef.{StructDef}
use Rattle.cbase.specs.declared.tree.expr.Expr.{Expr}
use Rattle.typing.specs.Calls.{Argument}
use Rattle.typing.specs.Known.{operand}
use Rattle.expressions.specs.declared.known.Known.{Known as KnownByNumber}
use Rattle.expressions.specs.Numbers.{Numbering, known_at}

abbrev pub arguments_at : Numbering → List StructDef → List Expr → List KnownByNumber → List Argument
arguments_at n structs [] known = []
arguments_at n structs (expr ∷ exprs) [] = []
arguments_at n structs (expr ∷ exprs) (one ∷ known) =
    record { place = expr.place; operand = operand structs (known_at n one); value = one.value } ∷ arguments_at n structs exprs known
