-- Where the fields of a struct lie in it (C11 6.7.2.1, 7.19).
use Rattle.std.specs.Prelude.{ℕ, zero, suc, nat_eq, List, [], ◌∷◌, map, Option, Some, None, slice_get}
use Rattle.std.specs.Int.{next_multiple_of}
use Rattle.std.specs.Option.{option_map_or}
use Rattle.std.specs.List.{position_from}
use Rattle.std.specs.Cmp.Lexicographic.{pointwise}
use Rattle.cbase.specs.declared.abi.Abi.{Abi}
use Rattle.cbase.specs.declared.structs.Field.{Field}
use Rattle.cbase.specs.declared.structs.StructDef.{StructDef}
use Rattle.cbase.specs.declared.layout.Layout.{Layout}
use Rattle.cbase.specs.declared.measure.Extent.{Extent}
use Rattle.cbase.specs.declared.measure.Extent.TheVariants.{Bytes, Incomplete, TooLarge}
use Rattle.cbase.specs.Layout.{with_field, no_fields, layout_of}

-- a number of bytes, at most 65,536
abbrev pub IsBytes : Extent → Type 0
IsBytes (Bytes count) = Unit {0}
IsBytes Incomplete = ⊥
IsBytes TooLarge = ⊥

-- the fields of the struct of a number
abbrev pub fields_of : List StructDef → ℕ → List Field
fields_of structs number = option_map_or (λ definition. definition.fields) (slice_get structs number) []

-- the index of the first field of that name
abbrev pub index_of : List ℕ → List Field → Option ℕ
index_of name fields = position_from (λ field. pointwise nat_eq field.name name) 0 fields

-- where the field of an index begins, in a struct of which `before` is laid
abbrev pub offset_behind : Layout → List (Option Layout) → ℕ → Option ℕ
offset_behind before [] index = None
offset_behind before (None ∷ rest) index = None
offset_behind before (Some field ∷ rest) zero = Some (next_multiple_of before.size field.alignment)
offset_behind before (Some field ∷ rest) (suc index) = offset_behind (with_field before field) rest index

-- where the field of an index begins
abbrev pub offset_of : Abi → List StructDef → List Field → ℕ → Option ℕ
offset_of abi structs fields index = offset_behind no_fields (map (λ field. layout_of abi structs field.ctype) fields) index
