-- The offsetof idiom: a cast to an integer type of `&` of what is made by `->`, `.` and `[constant]` from one cast of a constant 0 to
-- a pointer type, with the `->` first and only there, and `[constant]` on arrays alone.
use Rattle.std.specs.Prelude.{ℕ, ◌+◌, ◌*◌, ◌%◌, ◌^◌, Bool, true, false, List, Option, None, Some, option_and_then, nat_le, if◌then◌else◌}
use Rattle.cbase.specs.declared.abi.Abi.{Abi}
use Rattle.cbase.specs.declared.ctype.CType.{CType}
use Rattle.cbase.specs.declared.structs.StructDef.{StructDef}
use Rattle.cbase.specs.Layout.{layout_of}
use Rattle.cbase.specs.Offset.{fields_of, index_of, offset_of}
use Rattle.typing.specs.ctypes.Kinds.{Kind, Integer, Pointer, Array, Struct, kind_of}
use Rattle.typing.specs.declared.idiom.Idiom.{Idiom}
use Rattle.typing.specs.declared.idiom.Idiom.TheVariants.{Outside, NullPointer, MemberAt, AddressAt}

-- sums and products of words of 64 bits, which wrap
abbrev pub plus : ℕ → ℕ → ℕ
plus left right = (left + right) % (2 ^ 64)

abbrev pub times : ℕ → ℕ → ℕ
times left right = (left * right) % (2 ^ 64)

-- behind `->` and a member that begins at an offset
abbrev pub through : Idiom → Option ℕ → Idiom
through NullPointer (Some offset) = MemberAt offset
through idiom offset = Outside

-- behind `.` and such a member
abbrev pub within : Idiom → Option ℕ → Idiom
within (MemberAt before) (Some offset) = MemberAt (plus before offset)
within idiom offset = Outside

-- behind an index that is a constant, as a word, on an array of items of so many bytes
abbrev pub at_index : Idiom → Option ℕ → Option ℕ → Idiom
at_index (MemberAt before) (Some index) (Some bytes) = MemberAt (plus before (times index bytes))
at_index idiom index bytes = Outside

-- behind `&`
abbrev pub address : Idiom → Idiom
address (MemberAt offset) = AddressAt offset
address idiom = Outside

-- the offset that a cast of it to an integer type has as its value
abbrev pub offset_in : Idiom → Option ℕ
offset_in (AddressAt offset) = Some offset
offset_in idiom = None

abbrev pub is_idiom : Idiom → Bool
is_idiom (AddressAt offset) = true
is_idiom idiom = false

-- a cast of a constant 0 to a pointer type, or none
abbrev pub null_cast : Bool → Kind → Kind → Idiom
null_cast true (Pointer item target) (Integer from) = NullPointer
null_cast null to from = Outside

-- a number of bytes of an object: none has more than 65,536, and a larger number is none
abbrev pub at_most : ℕ → Option ℕ
at_most bytes = if nat_le bytes 65536 then Some bytes else None

-- how many bytes an item of an array has; none for what is no array
abbrev pub item_bytes : Abi → List StructDef → Kind → Option ℕ
item_bytes abi structs (Array item target) = option_and_then (λ layout. at_most layout.size) (layout_of abi structs item)
item_bytes abi structs kind = None

-- where a member of a struct begins
abbrev pub offset_in_struct : Abi → List StructDef → Kind → List ℕ → Option ℕ
offset_in_struct abi structs (Struct number) name =
    option_and_then at_most (option_and_then (offset_of abi structs (fields_of structs number)) (index_of name (fields_of structs number)))
offset_in_struct abi structs kind name = None

abbrev pub member_offset : Abi → List StructDef → CType → List ℕ → Option ℕ
member_offset abi structs t name = offset_in_struct abi structs (kind_of structs t) name
