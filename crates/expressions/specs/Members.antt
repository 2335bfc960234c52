-- The members that a struct has so far, and what is kept beside them: their names, and how they are laid (C11 6.2.3, 6.7.2.1p15).
use Rattle.std.specs.Prelude.{◌≡◌, ◌<◌, ◌++◌, ℕ, true, List, Option, Some, map, is_some, length, option_map, All}
use Rattle.cbase.specs.declared.abi.Abi.TheVariants.{Lp64}
use Rattle.cbase.specs.declared.layout.Layout.{Layout}
use Rattle.cbase.specs.declared.structs.Field.{Field}
use Rattle.cbase.specs.declared.structs.StructDef.{StructDef}
use Rattle.cbase.specs.Completing.{are_complete}
use Rattle.cbase.specs.Kept.{capped, IsSmall}
use Rattle.cbase.specs.Layout.{layout_of, fields_layout, no_fields}
use Rattle.typing.specs.declared.ctypes.structs.Member.{Member}
use Rattle.typing.specs.ctypes.Structs.{fields_of}
use Rattle.typing.specs.environment.Names.{Entries, value_in}
use Rattle.typing.specs.Braces.{has_member}
use Rattle.expressions.specs.Context.{Context}

-- the layouts of fields, each where its type has one
abbrev pub layouts_of : List StructDef → List Field → List (Option Layout)
layouts_of structs fields = map (λ field. layout_of Lp64 structs field.ctype) fields

pub record AreMembers (context : Context) (members : List Member) (names : Entries (Unit {0})) (layout : Layout) : Type 0 where
  pub below : All (λ member. member.ctype < length context.types) members
  pub named : (name : List ℕ) → is_some (value_in name names) ≡ has_member (Some name) (fields_of context.types members)
  pub complete : are_complete context.structs (fields_of context.types members) ≡ true
  -- with whatever members follow, the struct is laid as behind this layout
  pub laid : (rest : List (Option Layout)) → option_map capped (fields_layout no_fields (layouts_of context.structs (fields_of context.types members) ++ rest)) ≡ option_map capped (fields_layout layout rest)
  pub small : IsSmall layout
