-- Where the members of a struct lie (C11 6.7.2.1, 7.19): as a table of names says, the first member of each name, and as a list
-- says, each member in its order.
use Rattle.std.specs.Prelude.{◌≡◌, ℕ, List, Option, None, Some, length, min, drop, nat_eq, option_map, slice_get}
use Rattle.std.specs.Global.{Vec}
use Rattle.std.specs.List.{position_from}
use Rattle.std.specs.Map.{lookup}
use Rattle.std.specs.Str.{bytes_eq}
use Rattle.std.specs.Cmp.Lexicographic.{pointwise}
use Rattle.cbase.specs.declared.abi.Abi.TheVariants.{Lp64}
use Rattle.cbase.specs.declared.structs.Field.{Field}
use Rattle.cbase.specs.declared.structs.StructDef.{StructDef}
use Rattle.cbase.specs.Offset.{index_of, offset_of}
use Rattle.typing.specs.declared.ctypes.structs.Member.{Member}
use Rattle.typing.specs.declared.ctypes.structs.MemberAt.{MemberAt}

-- what a table of names has for a name
abbrev pub find_in : List (Vec ℕ × MemberAt) → List ℕ → Option MemberAt
find_in entries name = lookup (λ key. bytes_eq name key.items) entries

-- the first of two that is there
abbrev pub first_of : Option MemberAt → Option MemberAt → Option MemberAt
first_of None second = second
first_of (Some at) second = Some at

-- the first member of a name: its index, its offset as it is kept, and the number of its type
pub record IsFirst (structs : List StructDef) (fields : List Field) (members : List Member) (name : List ℕ) (at : MemberAt) : Type 0 where
  pub index : index_of name fields ≡ Some at.index
  pub offset : option_map (λ offset. min offset 65537) (offset_of Lp64 structs fields at.index) ≡ Some at.offset
  pub ctype : option_map (λ member. member.ctype) (slice_get members at.index) ≡ Some at.ctype

-- what is found by a name is the first member of that name, and nothing is found where there is none
abbrev pub IsPlace : List StructDef → List Field → List Member → List ℕ → Option MemberAt → Type 0
IsPlace structs fields members name None = index_of name fields ≡ None
IsPlace structs fields members name (Some at) = IsFirst structs fields members name at

abbrev pub ArePlaces : List StructDef → List Field → List Member → (List ℕ → Option MemberAt) → Type 0
ArePlaces structs fields members find = (name : List ℕ) → IsPlace structs fields members name (find name)

-- the same of the members before an index
abbrev pub IsPlaceBefore : ℕ → List StructDef → List Field → List Member → List ℕ → Option MemberAt → Type 0
IsPlaceBefore index structs fields members name None = index_of name fields ≡ position_from (λ field. pointwise nat_eq field.name name) index (drop index fields)
IsPlaceBefore index structs fields members name (Some at) = IsFirst structs fields members name at

-- the member of an index: its offset as it is kept, and the number of its type
pub record IsMember (structs : List StructDef) (fields : List Field) (members : List Member) (index : ℕ) (at : MemberAt) : Type 0 where
  pub same : at.index ≡ index
  pub offset : option_map (λ offset. min offset 65537) (offset_of Lp64 structs fields index) ≡ Some at.offset
  pub ctype : option_map (λ member. member.ctype) (slice_get members index) ≡ Some at.ctype

-- the first `count` members, in their order
pub record AreInOrder (count : ℕ) (structs : List StructDef) (fields : List Field) (members : List Member) (places : List MemberAt) : Type 0 where
  pub size : length places ≡ count
  pub right : (index : ℕ) (at : MemberAt) → slice_get places index ≡ Some at → IsMember structs fields members index at
