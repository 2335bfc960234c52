-- What a table keeps beside its types and structs, so that a layout is told in one step: each type as a row of equal parts, and
-- the layout of each struct that is complete.
use Rattle.std.specs.Prelude.{◌≡◌, true, ℕ, ◌<◌, List, map, All, Option, Some, length, option_map, slice_get}
use Rattle.cbase.specs.declared.abi.Abi.TheVariants.{Lp64}
use Rattle.cbase.specs.declared.ctype.CType.{CType}
use Rattle.cbase.specs.declared.layout.Layout.{Layout}
use Rattle.cbase.specs.declared.row.Row.{Row}
use Rattle.cbase.specs.KeptStructs.{Entry as KeptEntry}
use Rattle.cbase.specs.Layout.{type_layout}
use Rattle.cbase.specs.Kept.{capped}
use Rattle.cbase.specs.KeptRows.{row_layout, IsSmallRow}
use Rattle.cbase.specs.KeptStructs.{AreKept}
use Rattle.typing.specs.declared.ctypes.shape.Shape.{Shape}
use Rattle.typing.specs.declared.ctypes.structs.Member.{Member}
use Rattle.typing.specs.declared.ctypes.structs.Laid.{Laid}
use Rattle.typing.specs.declared.ctypes.structs.Entry.{Entry}
use Rattle.typing.specs.ctypes.Table.{types_of, type_at, IsTable}
use Rattle.typing.specs.ctypes.Structs.{fields_of, struct_of, read_off}
use Rattle.typing.specs.ctypes.Places.{find_in, ArePlaces, AreInOrder}

-- a type is laid as a row of parts, whatever the structs are; so the row stays right while structs are completed
abbrev pub IsRow : CType → Row → Type 0
IsRow t row = ((of_struct : ℕ → Option Layout) → option_map capped (type_layout Lp64 of_struct t) ≡ row_layout of_struct row) × IsSmallRow row

-- each type has its row
pub record AreRows (types : List CType) (rows : List Row) : Type 0 where
  pub size : length rows ≡ length types
  pub right : (number : ℕ) (row : Row) → slice_get rows number ≡ Some row → IsRow (type_at types number) row

-- the members of each struct have types of the table
abbrev pub AreNamed : ℕ → List Entry → Type 0
AreNamed count entries = (number : ℕ) (entry : Entry) → slice_get entries number ≡ Some entry → All (λ member. member.ctype < count) entry.members

-- a struct with its layout
abbrev pub kept_of : List CType → Entry → KeptEntry
kept_of types entry = record { definition = struct_of types entry; layout = entry.layout }

-- a struct with these members, which are laid so
abbrev pub closed : Entry → List Member → Laid → Entry
closed entry members laid = record { name = entry.name; complete = true; members = members; layout = Some laid.layout; places = laid.places; in_order = laid.in_order }

-- the members of each struct are found by their names
abbrev pub AreFound : List CType → List Entry → Type 0
AreFound types entries = (number : ℕ) (entry : Entry) → slice_get entries number ≡ Some entry →
    ArePlaces (read_off types entries) (fields_of types entry.members) entry.members (find_in entry.places.entries)

-- the members of each struct are found by their indices
abbrev pub AreListed : List CType → List Entry → Type 0
AreListed types entries = (number : ℕ) (entry : Entry) → slice_get entries number ≡ Some entry →
    AreInOrder (length entry.members) (read_off types entries) (fields_of types entry.members) entry.members entry.in_order.items

-- what is kept of structs, where `types` are those of the numbers
pub record AreLaid (types : List CType) (entries : List Entry) : Type 0 where
  pub named : AreNamed (length types) entries
  pub kept : AreKept (map (kept_of types) entries)
  pub found : AreFound types entries
  pub listed : AreListed types entries

-- what holds of the parts of a table
pub record AreTables (shapes : List Shape) (rows : List Row) (entries : List Entry) : Type 0 where
  pub apart : IsTable shapes
  pub beside : AreRows (types_of shapes) rows
  pub laid : AreLaid (types_of shapes) entries
