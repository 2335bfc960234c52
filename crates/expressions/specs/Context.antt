-- What is known at a place of a text: types and structs by their numbers, what names and tags are declared as, and what was handed on of the expressions
-- before it.
use Rattle.std.specs.Prelude.{◌≡◌, ◌≤◌, ℕ, true, List, Some, length, slice_get}
use Rattle.cbase.specs.declared.ctype.CType.{CType}
use Rattle.cbase.specs.declared.structs.StructDef.{StructDef}
use Rattle.typing.specs.declared.environment.entity.Signature.{Signature}
use Rattle.typing.specs.declared.environment.environment.Environment.{Environment}
use Rattle.expressions.specs.declared.handed_row.HandedRow.{HandedRow}
use Rattle.expressions.specs.Numbers.{Numbering}

pub record Context : Type 0 where
  pub types : List CType
  pub structs : List StructDef
  pub environment : Environment
  pub handed : List HandedRow

-- what is declared there
pub record Declared : Type 0 where
  pub environment : Environment
  pub structs : List StructDef

abbrev pub declared : Context → Declared
declared context = record { environment = context.environment; structs = context.structs }

-- a numbering has what a context has so far; a type has one number there
pub record Agrees (n : Numbering) (context : Context) : Type 0 where
  pub types : (number : ℕ) (t : CType) → slice_get context.types number ≡ Some t → n.ctype number ≡ t
  pub numbers : (number : ℕ) (t : CType) → slice_get context.types number ≡ Some t → n.number t ≡ number
  pub signatures : (number : ℕ) (s : Signature) → slice_get context.environment.signatures number ≡ Some s → n.signature number ≡ s

-- what had a number has it still, a struct that is complete stays as it is (C11 6.7.2.3p1), and none of the structs is gone
pub record Grows (old new : Context) : Type 0 where
  pub types : (number : ℕ) (t : CType) → slice_get old.types number ≡ Some t → slice_get new.types number ≡ Some t
  pub structs : (number : ℕ) (s : StructDef) → slice_get old.structs number ≡ Some s → s.complete ≡ true → slice_get new.structs number ≡ Some s
  pub longer : length old.structs ≤ length new.structs
  pub signatures : (number : ℕ) (s : Signature) → slice_get old.environment.signatures number ≡ Some s → slice_get new.environment.signatures number ≡ Some s

-- only types got numbers
pub record OnlyTypes (old new : Context) : Type 0 where
  pub types : (number : ℕ) (t : CType) → slice_get old.types number ≡ Some t → slice_get new.types number ≡ Some t
  pub structs : new.structs ≡ old.structs
  pub environment : new.environment ≡ old.environment
  pub handed : new.handed ≡ old.handed
