-- The row of a type, shape by shape.
use Rattle.std.proofs.Common.{◌≡◌, ℕ, ◌*◌, ◌<◌, min, List, Option, Some, None, length, refl, sym, ap, ◌∙◌, mul_comm, arith}
use Rattle.std.proofs.lemmas.Bool.Decides.{nat_tests}
use Rattle.std.proofs.lemmas.Option.{slice_get-get_or}
use Rattle.std.specs.Prelude.{Bool as BoolValue, true, false, option_map, slice_index_or, if◌then◌else◌}
use Rattle.cbase.specs.declared.abi.Abi.TheVariants.{Lp64}
use Rattle.cbase.specs.declared.ctype.CType.{CType}
use Rattle.cbase.specs.declared.ctype.CType.TheVariants.{Void, Bool, Int, Pointer, Struct, Array}
use Rattle.cbase.specs.declared.layout.Layout.{Layout}
use Rattle.cbase.specs.declared.row.Row.{Row}
use Rattle.cbase.specs.declared.row.RowPart.{RowPart}
use Rattle.cbase.specs.declared.row.RowPart.TheVariants.{Unsized, Scalar, Struct as StructPart}
use Rattle.cbase.specs.Layout.{type_layout, repeated, is_integer_size}
use Rattle.cbase.specs.Kept.{capped}
use Rattle.cbase.specs.KeptRows.{part_layout, row_layout, integer_part, IsSmallPart}
use Rattle.cbase.proofs.Capped.{capped-repeated_size}
use Rattle.cbase.proofs.Rows.{row_one, row_void, row_bool, row_int, row_pointer, row_struct, capped-rows}
use Rattle.cbase.proofs.Types.{type_layout-Array}
use Rattle.typing.specs.ctypes.Table.{type_at}
use Rattle.typing.specs.ctypes.Kept.{IsRow, AreRows}

-- the type is laid as the row says
abbrev pub IsLaidAs : CType → Row → Type 0
IsLaidAs t row = (of_struct : ℕ → Option Layout) → option_map capped (type_layout Lp64 of_struct t) ≡ row_layout of_struct row

abbrev pub one : RowPart → Row
one part = record { count = 1; part = part }

pub void_row : IsLaidAs Void (one Unsized)
void_row = row_void Lp64 Void 1 (row_one Lp64 Void)

pub bool_row : IsLaidAs Bool (one (Scalar 1))
bool_row = row_bool Lp64 Bool 1 (row_one Lp64 Bool)

pub integer_row : (bytes : ℕ) (signed : BoolValue) → IsLaidAs (Int bytes signed) (one (integer_part bytes))
integer_row bytes signed = row_int bytes signed Lp64 (Int bytes signed) 1 (row_one Lp64 (Int bytes signed))

pub pointer_row : (item : CType) → IsLaidAs (Pointer item) (one (Scalar 8))
pointer_row item = row_pointer item Lp64 (Pointer item) 1 (row_one Lp64 (Pointer item))

pub struct_row : (number : ℕ) → IsLaidAs (Struct number) (one (StructPart number))
struct_row number = row_struct number Lp64 (Struct number) 1 (row_one Lp64 (Struct number))

items_row : (items count : ℕ) (laid part : Option Layout) → option_map capped laid ≡ option_map (λ l. capped (repeated count l)) part
    → option_map capped (option_map (repeated items) laid) ≡ option_map (λ l. capped (repeated (min (count * items) 65537) l)) part
items_row items count None None e = refl
items_row items count None (Some p) e = cc
items_row items count (Some l) None e = cc
items_row items count (Some l) (Some p) e =
    let same : capped l ≡ capped (repeated count p) = cc in
    ap Some (sym (capped-repeated_size items l) ∙ (ap (λ (k : Layout). capped (repeated items k)) same
    ∙ (capped-repeated_size items (repeated count p) ∙ (capped-rows items count p ∙ ap (λ (n : ℕ). capped (repeated (min n 65537) p)) (mul_comm items count)))))

pub array_row : (item : CType) (items : ℕ) (row : Row) → IsLaidAs item row → IsLaidAs (Array item items) (record { count = min (row.count * items) 65537; part = row.part })
array_row item items row laid of_struct =
    ap (option_map capped) (type_layout-Array Lp64 of_struct item items) ∙ items_row items row.count (type_layout Lp64 of_struct item) (part_layout of_struct row.part) (laid of_struct)

small_integer : (bytes : ℕ) → IsSmallPart (integer_part bytes)
small_integer bytes = by (is_integer_size bytes) refl
  where
    by : (is_size : BoolValue) → is_integer_size bytes ≡ is_size → IsSmallPart (if is_size then Scalar bytes else Unsized)
    by true e = (grind (arith, nat_tests), grind (arith, nat_tests))
    by false e = tt

pub integer_is_row : (bytes : ℕ) (signed : BoolValue) → IsRow (Int bytes signed) (one (integer_part bytes))
integer_is_row bytes signed = (integer_row bytes signed, (omega arith, small_integer bytes))

-- the row of an array is that of its items, so many times
pub array_is_row : (types : List CType) (rows : List Row) (item items : ℕ) (none : Row) → AreRows types rows → item < length rows
    → IsRow (Array (type_at types item) items) (record { count = min ((slice_index_or rows item none).count * items) 65537; part = (slice_index_or rows item none).part })
array_is_row types rows item items none are within =
    let is : IsRow (type_at types item) (slice_index_or rows item none) = are.right item (slice_index_or rows item none) (slice_get-get_or rows item none within) in
    (array_row (type_at types item) items (slice_index_or rows item none) is.0, (omega arith, is.1.1))
