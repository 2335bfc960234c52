-- The type that stars and sizes behind another one give.
use Rattle.std.specs.Prelude.{◌≡◌, ◌<◌, ℕ, List, length}
use Rattle.cbase.specs.declared.abi.Abi.{Abi}
use Rattle.typing.specs.declared.size.Size.{Size}
use Rattle.typing.specs.NamedTypes.{declared, declared_type, is_large}
use Rattle.expressions.specs.declared.named_type.NamedType.{NamedType as NamedByNumber}
use Rattle.expressions.specs.Context.{Context, Agrees, OnlyTypes}
use Rattle.expressions.specs.Numbers.{Numbering, named_at}

pub record IsDeclared (abi : Abi) (base : NamedByNumber) (stars : ℕ) (sizes : List Size) (old new : Context) (named : NamedByNumber) : Type 0 where
  pub only_types : OnlyTypes old new
  pub below : named.ctype < length new.types
  pub meant : (n : Numbering) → Agrees n new
      → named_at n named ≡ declared (named_at n base) stars sizes (is_large abi old.structs (declared_type (named_at n base) stars sizes))
