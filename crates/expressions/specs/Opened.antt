-- What the tag of braces stands for in front of them, and what is declared behind them (C11 6.7.2.3).
use Rattle.std.specs.Prelude.{◌≡◌, ℕ, List, Option, None, Some, slice_get}
use Rattle.cbase.specs.declared.abi.Abi.{Abi}
use Rattle.cbase.specs.declared.structs.StructDef.{StructDef}
use Rattle.cbase.specs.declared.tree.identifier.Identifier.{Identifier}
use Rattle.typing.specs.declared.fault.Fault.{Fault}
use Rattle.typing.specs.Braces.{Opens, IsTwice, struct_opening, enum_opening}
use Rattle.expressions.specs.declared.found.Found.{Found}
use Rattle.expressions.specs.declared.found.Found.TheVariants.{Passes, Refused}
use Rattle.expressions.specs.Context.{Context, declared}
use Rattle.expressions.specs.Numbers.{Numbering}
use Rattle.expressions.specs.Language.{language}

-- the struct whose members follow
pub record StructOpens (abi : Abi) (name : Option Identifier) (old new : Context) (number : ℕ) : Type 0 where
  pub opens : (n : Numbering) → struct_opening (language abi n) name (declared old) ≡ Opens (number, declared new)
  pub types : new.types ≡ old.types
  pub handed : new.handed ≡ old.handed
  pub signatures : new.environment.signatures ≡ old.environment.signatures
  pub keeps : (at : ℕ) (s : StructDef) → slice_get old.structs at ≡ Some s → slice_get new.structs at ≡ Some s

abbrev pub IsStructOpened : Abi → Option Identifier → Context → Context → Found ℕ → Type 0
IsStructOpened abi name old new (Passes number) = StructOpens abi name old new number
IsStructOpened abi name old new (Refused first) = ((n : Numbering) → struct_opening (language abi n) name (declared old) ≡ IsTwice first) × (new ≡ old)

-- the enum whose constants follow
pub record EnumOpens (abi : Abi) (name : Option Identifier) (old new : Context) : Type 0 where
  pub opens : (n : Numbering) → enum_opening (language abi n) name (declared old) ≡ Opens (declared new)
  pub types : new.types ≡ old.types
  pub handed : new.handed ≡ old.handed
  pub signatures : new.environment.signatures ≡ old.environment.signatures
  pub structs : new.structs ≡ old.structs

abbrev pub IsEnumOpened : Abi → Option Identifier → Context → Context → Option Fault → Type 0
IsEnumOpened abi name old new None = EnumOpens abi name old new
IsEnumOpened abi name old new (Some first) = ((n : Numbering) → enum_opening (language abi n) name (declared old) ≡ IsTwice first) × (new ≡ old)
