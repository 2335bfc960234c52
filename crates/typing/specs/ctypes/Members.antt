-- The types of `a[i]` (C11 6.5.2.1), and of members (6.5.2.3).
use Rattle.std.specs.Prelude.{ℕ, Bool, List, Option, None, Some, option_map, option_and_then, slice_get, if◌then◌else◌}
use Rattle.cbase.specs.declared.ctype.CType.{CType}
use Rattle.cbase.specs.declared.structs.StructDef.{StructDef}
use Rattle.cbase.specs.Offset.{fields_of, index_of}
use Rattle.typing.specs.declared.ctypes.kind.Target.{Target}
use Rattle.typing.specs.declared.ctypes.kind.Target.TheVariants.{Void as VoidTarget, Sized, Unsized}
use Rattle.typing.specs.declared.ctypes.found.Broken.TheVariants.{Rule}
use Rattle.typing.specs.ctypes.Broken.{Judgement, Typed, Breaks}
use Rattle.typing.specs.ctypes.Kinds.{Kind, Integer, Pointer, Array, Struct, Void, kind_of, has_size}

-- an item behind a pointer: of an incomplete struct none can be counted, of `void` bytes are
abbrev pub item_at : CType → Target → Judgement
item_at item VoidTarget = Typed item
item_at item Sized = Typed item
item_at item Unsized = Breaks (Rule 3)

-- `a[i]` takes a pointer and an integer, in any order (C11 6.5.2.1p1-2)
abbrev pub indexed : Kind → Kind → Judgement
indexed (Pointer item target) (Integer index) = item_at item target
indexed (Integer index) (Pointer item target) = item_at item target
indexed left right = Breaks (Rule 4)

-- the type of the member of that name
abbrev pub type_of_member : List StructDef → ℕ → List ℕ → Option CType
type_of_member structs number name =
    option_and_then (λ index. option_map (λ field. field.ctype) (slice_get (fields_of structs number) index))
    (index_of name (fields_of structs number))

abbrev pub named : Option CType → Judgement
named None = Breaks (Rule 6)
named (Some t) = Typed t

-- a member of a struct, which is complete and has it (C11 6.5.2.3p1)
abbrev pub member_in : List StructDef → Bool → Kind → List ℕ → Judgement
member_in structs sized (Integer t) name = Breaks (Rule 4)
member_in structs sized (Pointer item target) name = Breaks (Rule 4)
member_in structs sized (Array item target) name = Breaks (Rule 4)
member_in structs sized (Struct number) name = if sized then named (type_of_member structs number name) else Breaks (Rule 3)
member_in structs sized Void name = Breaks (Rule 4)

-- a member of a type's values: `e.m`
abbrev pub member_of : List StructDef → CType → List ℕ → Judgement
member_of structs t name = member_in structs (has_size structs t) (kind_of structs t) name

-- `e->m` is the member of what the pointer leads to (C11 6.5.2.3p2, p4)
abbrev pub member_through : List StructDef → Kind → List ℕ → Judgement
member_through structs (Integer t) name = Breaks (Rule 4)
member_through structs (Pointer item target) name = member_of structs item name
member_through structs (Array item target) name = member_of structs item name
member_through structs (Struct number) name = Breaks (Rule 4)
member_through structs Void name = Breaks (Rule 4)
