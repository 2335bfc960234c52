-- The way to a member in `__builtin_offsetof` (C11 7.19p3).
use Rattle.std.specs.Prelude.{◌≡◌, ℕ, suc, List, [], ◌∷◌, Option, None, Some, nat_eq, if◌then◌else◌}
use Rattle.cbase.specs.declared.abi.Abi.{Abi}
use Rattle.cbase.specs.declared.ctype.CType.{CType}
use Rattle.cbase.specs.declared.place.Place.{Place}
use Rattle.cbase.specs.declared.structs.StructDef.{StructDef}
use Rattle.cbase.specs.declared.tree.expr.Expr.{Expr}
use Rattle.cbase.specs.declared.tree.expr.ExprForm.TheOpen.{Part::Member, At}
use Rattle.cbase.specs.declared.tree.identifier.Identifier.{Identifier}
use Rattle.typing.specs.declared.ctypes.found.Broken.{Broken}
use Rattle.typing.specs.declared.ctypes.found.Broken.TheVariants.{Construct, Rule}
use Rattle.typing.specs.ctypes.Broken.{Typed, Breaks}
use Rattle.typing.specs.ctypes.Kinds.{Kind, Integer, Pointer, Array, Struct, Void, kind_of}
use Rattle.typing.specs.ctypes.Members.{member_of}
use Rattle.typing.specs.declared.fault.Fault.{Fault}
use Rattle.typing.specs.Faults.{fault}
use Rattle.typing.specs.Forms.{Step}
use Rattle.typing.specs.Idiom.{plus, times, item_bytes, member_offset}

-- where a way leads: so many bytes behind the front of the struct, as a word of 64 bits, or what is broken on it
pub data Way : Type 0 where
  Offset : ℕ → Way
  Stops : Fault → Way

abbrev pub way_faults : Way → List Fault
way_faults (Offset offset) = []
way_faults (Stops stop) = stop ∷ []

abbrev pub way_offset : Way → ℕ
way_offset (Offset offset) = offset
way_offset (Stops stop) = 0

-- what is broken at the first name: of what is no struct, or an incomplete one, at the word `__builtin_offsetof`
abbrev pub first_fault : Place → Place → Broken → Fault
first_fault word name (Construct number) = fault word (Construct number)
first_fault word name (Rule number) = fault (if nat_eq number 6 then name else word) (Rule number)

-- the items of an array
abbrev pub item_in : Kind → Option CType
item_in (Array item target) = Some item
item_in (Integer t) = None
item_in (Pointer item target) = None
item_in (Struct number) = None
item_in Void = None

-- how many indices stand on a way
abbrev pub indices_on : List Step → ℕ
indices_on [] = 0
indices_on (Part::Member name ∷ path) = indices_on path
indices_on (At index ∷ path) = suc (indices_on path)

-- from a type on, so many bytes behind the front, the parts of a way with the values of its indices lead there. A name that is no
-- member of what is reached is rule 6 at it; an index on what is no array is rule 4 at the word, and a member or an item that no object
-- has room for is construct 19 there
pub data Leads (abi : Abi) (structs : List StructDef) (word : Place) : CType → ℕ → List Step → List ℕ → Way → Type 0 where
  Arrives : {t : CType} {offset : ℕ} → Leads abi structs word t offset [] [] (Offset offset)
  ToMember : {t next : CType} {offset : ℕ} {bytes : ℕ} {path : List Step} {indices : List ℕ} {way : Way} {name : Identifier}
      → member_of structs t name.name ≡ Typed next
      → member_offset abi structs t name.name ≡ Some bytes
      → Leads abi structs word next (plus offset bytes) path indices way
      → Leads abi structs word t offset (Part::Member name ∷ path) indices way
  MemberTooFar : {t next : CType} {offset : ℕ} {path : List Step} {indices : List ℕ} {name : Identifier}
      → member_of structs t name.name ≡ Typed next
      → member_offset abi structs t name.name ≡ None
      → Leads abi structs word t offset (Part::Member name ∷ path) indices (Stops (fault word (Construct 19)))
  NoMember : {t : CType} {offset : ℕ} {broken : Broken} {path : List Step} {indices : List ℕ} {name : Identifier}
      → member_of structs t name.name ≡ Breaks broken
      → Leads abi structs word t offset (Part::Member name ∷ path) indices (Stops (fault name.place (Rule 6)))
  ToItem : {t item : CType} {offset : ℕ} {bytes : ℕ} {value : ℕ} {path : List Step} {indices : List ℕ} {way : Way} {index : Expr}
      → item_in (kind_of structs t) ≡ Some item
      → item_bytes abi structs (kind_of structs t) ≡ Some bytes
      → Leads abi structs word item (plus offset (times value bytes)) path indices way
      → Leads abi structs word t offset (At index ∷ path) (value ∷ indices) way
  ItemTooLarge : {t item : CType} {offset value : ℕ} {path : List Step} {indices : List ℕ} {index : Expr}
      → item_in (kind_of structs t) ≡ Some item
      → item_bytes abi structs (kind_of structs t) ≡ None
      → Leads abi structs word t offset (At index ∷ path) (value ∷ indices) (Stops (fault word (Construct 19)))
  NoItem : {t : CType} {offset : ℕ} {value : ℕ} {path : List Step} {indices : List ℕ} {index : Expr}
      → item_in (kind_of structs t) ≡ None
      → Leads abi structs word t offset (At index ∷ path) (value ∷ indices) (Stops (fault word (Rule 4)))

-- a whole way. The grammar reads none that does not begin with a name: one without steps leads to the front, and one that begins with an
-- index goes on from there
pub data LeadsFrom (abi : Abi) (structs : List StructDef) (word : Place) : CType → List Step → List ℕ → Way → Type 0 where
  NoSteps : {t : CType} → LeadsFrom abi structs word t [] [] (Offset 0)
  ToFirst : {t next : CType} {bytes : ℕ} {path : List Step} {indices : List ℕ} {way : Way} {name : Identifier}
      → member_of structs t name.name ≡ Typed next
      → member_offset abi structs t name.name ≡ Some bytes
      → Leads abi structs word next bytes path indices way
      → LeadsFrom abi structs word t (Part::Member name ∷ path) indices way
  FirstTooFar : {t next : CType} {path : List Step} {indices : List ℕ} {name : Identifier}
      → member_of structs t name.name ≡ Typed next
      → member_offset abi structs t name.name ≡ None
      → LeadsFrom abi structs word t (Part::Member name ∷ path) indices (Stops (fault word (Construct 19)))
  NoFirst : {t : CType} {broken : Broken} {path : List Step} {indices : List ℕ} {name : Identifier}
      → member_of structs t name.name ≡ Breaks broken
      → LeadsFrom abi structs word t (Part::Member name ∷ path) indices (Stops (first_fault word name.place broken))
  FromItem : {t : CType} {path : List Step} {indices : List ℕ} {way : Way} {index : Expr}
      → Leads abi structs word t 0 (At index ∷ path) indices way
      → LeadsFrom abi structs word t (At index ∷ path) indices way
