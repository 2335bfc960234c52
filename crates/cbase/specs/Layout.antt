-- Sizes and alignments of the types of C: C11 6.2.5, 6.5.3.4 and 6.7.2.1, by a data layout. A type says how many bytes its
-- integers have, so that the data layouts give it one size. The numbers here have no bound.
use Rattle.std.specs.Prelude.{ℕ, zero, suc, ◌+◌, ◌*◌, ◌||◌, max, nat_eq, nat_le, Bool, List, [], ◌∷◌, map, length, Option, Some, None, option_map, slice_get, if◌then◌else◌}
use Rattle.std.specs.Int.{next_multiple_of}
use Rattle.cbase.specs.declared.abi.Abi.{Abi}
use Rattle.cbase.specs.declared.abi.Abi.TheVariants.{Lp64, Llp64}
use Rattle.cbase.specs.declared.ctype.CType.{CType}
use Rattle.cbase.specs.declared.ctype.CType.TheOpen.{CType-F, Void, Bool as BoolType, Int, Pointer, Struct, Array}
use Rattle.cbase.specs.declared.ctype.CType.TheFolds.{fold-CType}
use Rattle.cbase.specs.declared.structs.StructDef.{StructDef}
use Rattle.cbase.specs.declared.layout.Layout.{Layout}
use Rattle.cbase.specs.declared.measure.Extent.{Extent}
use Rattle.cbase.specs.declared.measure.Extent.TheVariants.{Bytes, Incomplete, TooLarge}

-- how many bytes a pointer has
abbrev pub pointer_bytes : Abi → ℕ
pointer_bytes Lp64 = 8
pointer_bytes Llp64 = 8

-- a number or a pointer: its address is a multiple of its size
abbrev pub scalar : ℕ → Layout
scalar bytes = record { size = bytes; alignment = bytes }

-- the sizes that integers have
abbrev pub is_integer_size : ℕ → Bool
is_integer_size bytes = nat_eq bytes 1 || nat_eq bytes 2 || nat_eq bytes 4 || nat_eq bytes 8

-- an array: its items follow each other without gaps
abbrev pub repeated : ℕ → Layout → Layout
repeated count item = record { size = count * item.size; alignment = item.alignment }

-- a struct before its first field
abbrev pub no_fields : Layout
no_fields = record { size = 0; alignment = 1 }

-- a struct with one more field, which stands at the next multiple of its alignment
abbrev pub with_field : Layout → Layout → Layout
with_field before field = record {
  size = next_multiple_of before.size field.alignment + field.size;
  alignment = max before.alignment field.alignment;
}

-- a struct behind its last field: its size is rounded up to its largest alignment
abbrev pub padded : Layout → Layout
padded fields = record { size = next_multiple_of fields.size fields.alignment; alignment = fields.alignment }

-- a struct of which `before` is laid, with these fields to follow: none where one of them has no layout
abbrev pub fields_layout : Layout → List (Option Layout) → Option Layout
fields_layout before [] = Some (padded before)
fields_layout before (None ∷ rest) = None
fields_layout before (Some field ∷ rest) = fields_layout (with_field before field) rest

-- a struct with the layouts of its fields' types: none where it is incomplete, or where there is none of that number
abbrev pub struct_layout : (CType → Option Layout) → Option StructDef → Option Layout
struct_layout of_type None = None
struct_layout of_type (Some definition) =
    if definition.complete then fields_layout no_fields (map (λ field. of_type field.ctype) definition.fields) else None

-- a type with its item's layout in place of the item, and with the layouts of the structs: void has none
abbrev pub type_step : Abi → (ℕ → Option Layout) → CType-F (Option Layout) → Option Layout
type_step abi of_struct Void = None
type_step abi of_struct BoolType = Some (scalar 1)
type_step abi of_struct (Int bytes signed) = if is_integer_size bytes then Some (scalar bytes) else None
type_step abi of_struct (Pointer item) = Some (scalar (pointer_bytes abi))
type_step abi of_struct (Struct number) = of_struct number
type_step abi of_struct (Array item count) = option_map (repeated count) item

-- a type, with the layouts of the structs
unfoldable pub type_layout : Abi → (ℕ → Option Layout) → CType → Option Layout
type_layout abi of_struct t = fold-CType (Option Layout) (type_step abi of_struct) t

-- the struct of a number, in which at most `depth` structs lie one inside the other
abbrev pub struct_at : Abi → ℕ → List StructDef → ℕ → Option Layout
struct_at abi zero structs number = None
struct_at abi (suc depth) structs number =
    struct_layout (type_layout abi (struct_at abi depth structs)) (slice_get structs number)

-- A type's layout: none where it is, or holds other than by pointers, void or an incomplete struct.
-- Where no struct holds itself but by pointers, no more structs lie one inside the other than there are.
abbrev pub layout_of : Abi → List StructDef → CType → Option Layout
layout_of abi structs t = type_layout abi (struct_at abi (length structs) structs) t

-- what is told of a size
abbrev pub extent_of : Option Layout → Extent
extent_of None = Incomplete
extent_of (Some layout) = if nat_le layout.size 65536 then Bytes layout.size else TooLarge

-- the alignment, where there is one
abbrev pub alignment_of : Option Layout → Option ℕ
alignment_of = option_map (λ layout. layout.alignment)
