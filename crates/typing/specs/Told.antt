-- What is told of a part of an expression that passes.
use Rattle.std.specs.Prelude.{ℕ, List}
use Rattle.cbase.specs.declared.ctype.CType.{CType}
use Rattle.typing.specs.Entities.{FunctionEntity}
use Rattle.typing.specs.Known.{Known}
use Rattle.typing.specs.declared.size.Size.{Size}
use Rattle.typing.specs.NamedTypes.{NamedType}

-- an operand; a function by its name, or a callee that is none; a type name; an index, as a word;
-- the size of an array; the type of a statement expression's value
pub data Told : Type 0 where
  OperandIs : Known → Told
  FunctionNamed : List ℕ → FunctionEntity → Told
  NoFunction : Told
  TypeIs : NamedType → Told
  IndexIs : ℕ → Told
  SizeIs : Size → Told
  ValueIs : CType → Told
