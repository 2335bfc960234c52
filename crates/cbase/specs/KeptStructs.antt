-- Structs with their layouts beside them, as they are kept while the text of a program is read.
use Rattle.std.specs.Prelude.{◌≡◌, ℕ, zero, suc, List, [], ◌∷◌, map, Option, Some, None, false, option_map, slice_get}
use Rattle.cbase.specs.declared.abi.Abi.TheVariants.{Lp64}
use Rattle.cbase.specs.declared.structs.Field.{Field}
use Rattle.cbase.specs.declared.structs.StructDef.{StructDef}
use Rattle.cbase.specs.declared.layout.Layout.{Layout}
use Rattle.cbase.specs.Layout.{struct_at, layout_of, fields_layout, no_fields}
use Rattle.cbase.specs.Kept.{capped, IsSmall}

-- a struct with its layout, once it is complete: one for both data layouts, for these give a type one size
pub record Entry : Type 0 where
  pub definition : StructDef
  pub layout : Option Layout

-- the structs alone
abbrev pub structs_of : List Entry → List StructDef
structs_of entries = map (λ entry. entry.definition) entries

-- one more where there is a layout
abbrev pub one_more : Option Layout → ℕ → ℕ
one_more None count = count
one_more (Some layout) count = suc count

-- how many structs have a layout
abbrev pub laid_count : List Entry → ℕ
laid_count [] = zero
laid_count (entry ∷ entries) = one_more entry.layout (laid_count entries)

-- the layout beside a struct is that of the struct, in which at most `depth` structs lie one inside the other; a struct
-- without a layout has no fields yet
abbrev pub IsKept : ℕ → List StructDef → ℕ → StructDef → Option Layout → Type 0
IsKept depth structs number definition None = definition.complete ≡ false
IsKept depth structs number definition (Some layout) = (option_map capped (struct_at Lp64 depth structs number) ≡ Some layout) × IsSmall layout

-- so it is of each struct: no more of them lie one inside the other than have a layout
abbrev pub AreKept : List Entry → Type 0
AreKept entries = (number : ℕ) (entry : Entry) → slice_get entries number ≡ Some entry →
    IsKept (laid_count entries) (structs_of entries) number entry.definition entry.layout

-- the layout of a struct with these fields, as it is kept
abbrev pub IsLaid : List StructDef → List Field → Layout → Type 0
IsLaid structs fields layout =
    (option_map capped (fields_layout no_fields (map (λ field. layout_of Lp64 structs field.ctype) fields)) ≡ Some layout) × IsSmall layout
