-- Arrays of arrays as one row of parts.
use Rattle.std.proofs.Common.{◌≡◌, ℕ, ◌*◌, min, Option, Some, None, refl, sym, ap, ◌∙◌, mul_assoc}
use Rattle.std.proofs.Math.Nat.{one-mul}
use Rattle.std.specs.Prelude.{Bool as BoolValue, true, false, option_map, if◌then◌else◌}
use Rattle.cbase.specs.declared.abi.Abi.{Abi}
use Rattle.cbase.specs.declared.ctype.CType.{CType}
use Rattle.cbase.specs.declared.ctype.CType.TheVariants.{Void, Bool, Int, Pointer, Struct}
use Rattle.cbase.specs.declared.layout.Layout.{Layout}
use Rattle.cbase.specs.declared.row.RowPart.{RowPart}
use Rattle.cbase.specs.declared.row.RowPart.TheVariants.{Unsized, Scalar, Struct as StructPart}
use Rattle.cbase.specs.Layout.{type_layout, repeated, scalar, is_integer_size, pointer_bytes}
use Rattle.cbase.specs.Kept.{capped}
use Rattle.cbase.specs.KeptRows.{part_layout, row_layout, integer_part, IsRowOf}
use Rattle.cbase.proofs.Capped.{capped-repeated_count}
use Rattle.cbase.proofs.Types.{type_layout-Void, type_layout-Bool, type_layout-Int, type_layout-Pointer, type_layout-Struct}

pub capped-rows : (count items : ℕ) (item : Layout) → capped (repeated count (repeated items item)) ≡ capped (repeated (min (count * items) 65537) item)
capped-rows count items item =
    ap (λ (n : ℕ). capped (record { size = n; alignment = item.alignment })) (sym (mul_assoc count items item.size))
    ∙ sym (capped-repeated_count (count * items) item)

option_one : (item : Option Layout) → option_map capped item ≡ option_map (λ l. capped (repeated 1 l)) item
option_one None = refl
option_one (Some item) = ap Some (ap (λ (n : ℕ). capped (record { size = n; alignment = item.alignment })) (sym (one-mul item.size)))

-- a type is one item of itself
pub row_one : (abi : Abi) (t : CType) → IsRowOf abi t 1 t
row_one abi t = λ of_struct. option_one (type_layout abi of_struct t)

-- where the layout of an item is that of a part, the type is laid as the row of these parts
row_end : (abi : Abi) (t item : CType) (count : ℕ) (part : RowPart) → IsRowOf abi t count item → ((of_struct : ℕ → Option Layout) → type_layout abi of_struct item ≡ part_layout of_struct part)
    → (of_struct : ℕ → Option Layout) → option_map capped (type_layout abi of_struct t) ≡ row_layout of_struct (record { count = count; part = part })
row_end abi t item count part row same of_struct = row of_struct ∙ ap (option_map (λ l. capped (repeated count l))) (same of_struct)

integer_same : (of_struct : ℕ → Option Layout) (bytes : ℕ) (is_size : BoolValue) → (if is_size then Some (scalar bytes) else None) ≡ part_layout of_struct (if is_size then Scalar bytes else Unsized)
integer_same of_struct bytes true = refl
integer_same of_struct bytes false = refl

-- the layout of a row of parts, for each type that is no array
abbrev EndsAs : CType → RowPart → Type 0
EndsAs item part = (abi : Abi) (t : CType) (count : ℕ) → IsRowOf abi t count item
    → (of_struct : ℕ → Option Layout) → option_map capped (type_layout abi of_struct t) ≡ row_layout of_struct (record { count = count; part = part })

pub row_void : EndsAs Void Unsized
row_void abi t count row = row_end abi t Void count Unsized row (λ of_struct. type_layout-Void abi of_struct)

pub row_bool : EndsAs Bool (Scalar 1)
row_bool abi t count row = row_end abi t Bool count (Scalar 1) row (λ of_struct. type_layout-Bool abi of_struct)

pub row_int : (bytes : ℕ) (signed : BoolValue) → EndsAs (Int bytes signed) (integer_part bytes)
row_int bytes signed abi t count row = row_end abi t (Int bytes signed) count (integer_part bytes) row (λ of_struct. type_layout-Int abi of_struct bytes signed ∙ integer_same of_struct bytes (is_integer_size bytes))

pub row_pointer : (item : CType) (abi : Abi) (t : CType) (count : ℕ) → IsRowOf abi t count (Pointer item)
    → (of_struct : ℕ → Option Layout) → option_map capped (type_layout abi of_struct t) ≡ row_layout of_struct (record { count = count; part = Scalar (pointer_bytes abi) })
row_pointer item abi t count row = row_end abi t (Pointer item) count (Scalar (pointer_bytes abi)) row (λ of_struct. type_layout-Pointer abi of_struct item)

pub row_struct : (number : ℕ) → EndsAs (Struct number) (StructPart number)
row_struct number abi t count row = row_end abi t (Struct number) count (StructPart number) row (λ of_struct. type_layout-Struct abi of_struct number)
