-- Arrays of arrays as they are kept while layouts are computed: as one row of parts.
use Rattle.std.specs.Prelude.{◌≡◌, ℕ, ◌<◌, ◌≤◌, Option, Some, None, option_map, if◌then◌else◌}
use Rattle.cbase.specs.declared.abi.Abi.{Abi}
use Rattle.cbase.specs.declared.ctype.CType.{CType}
use Rattle.cbase.specs.declared.layout.Layout.{Layout}
use Rattle.cbase.specs.declared.row.Row.{Row}
use Rattle.cbase.specs.declared.row.RowPart.{RowPart}
use Rattle.cbase.specs.declared.row.RowPart.TheVariants.{Unsized, Scalar, Struct}
use Rattle.cbase.specs.Layout.{type_layout, scalar, repeated, is_integer_size}
use Rattle.cbase.specs.Kept.{capped}

-- the layout of one part of a row
abbrev pub part_layout : (ℕ → Option Layout) → RowPart → Option Layout
part_layout of_struct Unsized = None
part_layout of_struct (Scalar bytes) = Some (scalar bytes)
part_layout of_struct (Struct number) = of_struct number

-- the layout of a row, as it is kept
abbrev pub row_layout : (ℕ → Option Layout) → Row → Option Layout
row_layout of_struct row = option_map (λ part. capped (repeated row.count part)) (part_layout of_struct row.part)

-- an integer type of so many bytes; a count that no integer type has is no size
abbrev pub integer_part : ℕ → RowPart
integer_part bytes = if is_integer_size bytes then Scalar bytes else Unsized

-- a type is laid as so many items of another type
abbrev pub IsRowOf : Abi → CType → ℕ → CType → Type 0
IsRowOf abi t count item = (of_struct : ℕ → Option Layout) →
    option_map capped (type_layout abi of_struct t) ≡ option_map (λ l. capped (repeated count l)) (type_layout abi of_struct item)

-- the bytes of a part fit a register
abbrev pub IsSmallPart : RowPart → Type 0
IsSmallPart Unsized = Unit {0}
IsSmallPart (Scalar bytes) = (0 < bytes) × (bytes ≤ 8)
IsSmallPart (Struct number) = Unit {0}

-- what the code keeps of a row
abbrev pub IsSmallRow : Row → Type 0
IsSmallRow row = (row.count ≤ 65537) × IsSmallPart row.part
