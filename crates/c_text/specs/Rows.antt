-- The rows of expressions among what typing hands on. The last row of a number is that of the expression.
use Rattle.std.specs.Prelude.{ℕ, Bool, true, ◌&&◌, List, [], ◌∷◌, nat_eq, nat_lt, Option, None, Some, slice_get, if◌then◌else◌}
use Rattle.typing.specs.declared.environment.entity.Entity.{Entity}
use Rattle.typing.specs.declared.environment.entity.Entity.TheVariants as entity
use Rattle.expressions.specs.declared.handed_row.HandedRow.{HandedRow}
use Rattle.expressions.specs.declared.handed_row.HandedRow.TheVariants.{Expression, Store, Object, Link, Function, Parameter}
use Rattle.c_text.specs.declared.expression_row.ExpressionRow.{ExpressionRow}

abbrev pub row_here : ℕ → HandedRow → Option ExpressionRow
row_here number (Expression own ctype stands value) =
    if nat_eq number own then Some (record { number = own; ctype = ctype; stands = stands; value = value }) else None
row_here number (Store object offset ctype own) = None
row_here number (Object token ctype fixed zeroed) = None
row_here number (Link token first) = None
row_here number (Function token result) = None
row_here number (Parameter token ctype) = None

abbrev pub or_else : Option ExpressionRow → Option ExpressionRow → Option ExpressionRow
or_else (Some row) other = Some row
or_else None other = other

abbrev pub row_in : ℕ → List HandedRow → Option ExpressionRow
row_in number [] = None
row_in number (row ∷ rest) = or_else (row_in number rest) (row_here number row)

-- the row at the place of a number in a list
abbrev pub at_place : Option (Option ExpressionRow) → Option ExpressionRow
at_place None = None
at_place (Some row) = row

abbrev pub row_at : List (Option ExpressionRow) → ℕ → Option ExpressionRow
row_at rows number = at_place (slice_get rows number)

-- whether what a row names by number is there: one of so many types, and of so many signatures
abbrev pub entity_known : ℕ → Entity → Bool
entity_known signatures (entity.Object ctype token lifetime defined) = true
entity_known signatures (entity.Typedef ctype) = true
entity_known signatures (entity.Enumerator bits) = true
entity_known signatures (entity.Function signature defined built_in) = nat_lt signature signatures

abbrev pub stands_known : ℕ → Option Entity → Bool
stands_known signatures None = true
stands_known signatures (Some entity) = entity_known signatures entity

abbrev pub is_known : ℕ → ℕ → HandedRow → Bool
is_known types signatures (Expression own ctype stands value) = nat_lt ctype types && stands_known signatures stands
is_known types signatures (Store object offset ctype own) = nat_lt ctype types
is_known types signatures (Object token ctype fixed zeroed) = nat_lt ctype types
is_known types signatures (Link token first) = true
is_known types signatures (Function token result) = nat_lt result types
is_known types signatures (Parameter token ctype) = nat_lt ctype types

abbrev pub are_known : ℕ → ℕ → List HandedRow → Bool
are_known types signatures [] = true
are_known types signatures (row ∷ rest) = is_known types signatures row && are_known types signatures rest
