-- No struct holds itself but by pointers: the structs have ranks that fall into what they hold.
use Rattle.std.specs.Prelude.{◌≡◌, ℕ, ◌<◌, length, List, Option, Some, None, IfSome, true, slice_get, All}
use Rattle.cbase.specs.declared.ctype.CType.{CType}
use Rattle.cbase.specs.declared.ctype.CType.TheOpen.{CType-F, Void, Bool, Int, Pointer, Struct, Array}
use Rattle.cbase.specs.declared.ctype.CType.TheFolds.{fold-CType}
use Rattle.cbase.specs.declared.structs.StructDef.{StructDef}

-- a type with the struct in its item in place of the item
abbrev pub struct_step : CType-F (Option ℕ) → Option ℕ
struct_step Void = None
struct_step Bool = None
struct_step (Int bytes signed) = None
struct_step (Pointer item) = None
struct_step (Struct number) = Some number
struct_step (Array item count) = item

-- the struct that a type is, or holds as an array does
unfoldable pub struct_in : CType → Option ℕ
struct_in t = fold-CType (Option ℕ) struct_step t

-- each rank is below the number of structs, and the structs that a struct holds have lower ranks than its own
pub record AreRanks (rank : ℕ → ℕ) (structs : List StructDef) : Type 0 where
  pub below : (number : ℕ) → number < length structs → rank number < length structs
  pub fall : (number : ℕ) (definition : StructDef) → slice_get structs number ≡ Some definition → definition.complete ≡ true
      → All (λ field. IfSome (struct_in field.ctype) (λ inner. rank inner < rank number)) definition.fields
