-- What is found of members of a struct: their sizes, each of them at its name, and the struct behind them (C11 6.7.2.1).
use Rattle.std.specs.Prelude.{◌≡◌, ℕ, List, [], ◌∷◌, ◌++◌, Option, None, Some, slice_get}
use Rattle.cbase.specs.declared.abi.Abi.{Abi}
use Rattle.cbase.specs.declared.ctype.CType.TheVariants.{Struct}
use Rattle.cbase.specs.declared.place.Place.{Place}
use Rattle.cbase.specs.declared.tree.expr.ExprForm.TheViews.{out-FieldName}
use Rattle.cbase.specs.declared.tree.spec.FieldName.{FieldName}
use Rattle.typing.specs.declared.ctypes.structs.Member.{Member}
use Rattle.typing.specs.ctypes.Structs.{fields_of}
use Rattle.typing.specs.declared.size.Size.{Size}
use Rattle.typing.specs.Braces.{faults_of_member, fixed_size, name_or_none}
use Rattle.typing.specs.Faults.{IsFirst}
use Rattle.typing.specs.Outcomes.{Passes, Refused}
use Rattle.expressions.specs.declared.found.Found.{Found}
use Rattle.expressions.specs.declared.found.Found.TheVariants.{Passes as FoundToPass, Refused as FoundRefused}
use Rattle.expressions.specs.declared.named_type.NamedType.{NamedType as NamedByNumber}
use Rattle.expressions.specs.Context.{Context, declared, Agrees}
use Rattle.expressions.specs.Numbers.{Numbering, named_at, fields_at}
use Rattle.expressions.specs.Operated.{Numbers}
use Rattle.expressions.specs.Language.{struct_completed}

-- a size that is given
abbrev pub IsFixed : Place → Size → Found Size → Type 0
IsFixed place size (FoundToPass told) = fixed_size place size [] ≡ Passes told []
IsFixed place size (FoundRefused first) = fixed_size place size [] ≡ Refused first

-- a member of a type behind others: nothing is broken at it, and it stands behind them, or the first of what is broken
abbrev pub IsMemberTaken : Abi → Context → List Member → List Member → FieldName → NamedByNumber → Found (Unit {0}) → Type 0
IsMemberTaken abi context before after name named (FoundToPass told) =
    ((n : Numbering) → Agrees n context → faults_of_member abi context.structs (fields_at n before) (out-FieldName name) (named_at n named) ≡ [])
    × (after ≡ before ++ record { name = name_or_none (out-FieldName name).name; ctype = named.ctype } ∷ [])
IsMemberTaken abi context before after name named (FoundRefused first) =
    (n : Numbering) → Agrees n context → IsFirst (faults_of_member abi context.structs (fields_at n before) (out-FieldName name) (named_at n named)) first

-- a struct behind its members has its number as a type
pub record ClosesTo (number : ℕ) (members : List Member) (old new : Context) (named : NamedByNumber) : Type 0 where
  pub middle : Context
  pub declared : declared middle ≡ struct_completed number (fields_of old.types members) (declared old)
  pub types : middle.types ≡ old.types
  pub handed : middle.handed ≡ old.handed
  pub numbers : Numbers (λ n. Struct number) middle new named.ctype
  pub found : named.found ≡ None

abbrev pub IsClosed : ℕ → List Member → Context → Context → Found NamedByNumber → Type 0
IsClosed number members old new (FoundToPass named) = ClosesTo number members old new named
IsClosed number members old new (FoundRefused first) = ⊥
