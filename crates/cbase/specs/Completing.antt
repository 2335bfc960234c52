-- The structs of a program while their text is read: declared without fields, and completed by them (C11 6.7.2.1 and
-- 6.7.2.3).
use Rattle.std.specs.Prelude.{ℕ, Bool, true, false, not, ◌&&◌, List, [], ◌∷◌, Option, Some, None, is_some, slice_get, slice_set}
use Rattle.std.specs.Option.{option_map_or}
use Rattle.cbase.specs.declared.abi.Abi.TheVariants.{Lp64}
use Rattle.cbase.specs.declared.structs.Field.{Field}
use Rattle.cbase.specs.declared.structs.StructDef.{StructDef}
use Rattle.cbase.specs.Layout.{layout_of}

-- a struct before its fields are given
abbrev pub fieldless : List ℕ → StructDef
fieldless name = record { name = name; complete = false; fields = [] }

-- whether there is a struct whose fields are to be given yet
abbrev pub is_open : Option StructDef → Bool
is_open None = false
is_open (Some definition) = not definition.complete

-- whether each field has a complete type: one that has a layout, whatever the data layout
abbrev pub are_complete : List StructDef → List Field → Bool
are_complete structs [] = true
are_complete structs (field ∷ fields) = is_some (layout_of Lp64 structs field.ctype) && are_complete structs fields

-- whether the struct of a number may be given these fields
abbrev pub may_complete : List StructDef → ℕ → List Field → Bool
may_complete structs number fields = is_open (slice_get structs number) && are_complete structs fields

-- a struct with these fields
abbrev pub with_fields : List Field → StructDef → StructDef
with_fields fields definition = record { name = definition.name; complete = true; fields = fields }

-- the structs, where that of a number has these fields
abbrev pub completed : List StructDef → ℕ → List Field → List StructDef
completed structs number fields = option_map_or (λ definition. slice_set structs number (with_fields fields definition)) (slice_get structs number) structs
