-- The braces of structs and of enums (C11 6.7.2.1, 6.7.2.2 and 6.7.2.3): what they stand for by their tag, and what is found of a member.
use Rattle.std.specs.Prelude.{ℕ, Bool, true, false, not, ◌||◌, List, [], ◌∷◌, ◌++◌, map, length, Option, None, Some, is_some}
use Rattle.std.specs.Str.{bytes_eq}
use Rattle.cbase.specs.declared.abi.Abi.{Abi}
use Rattle.cbase.specs.declared.ctype.CType.{CType}
use Rattle.cbase.specs.declared.place.Place.{Place}
use Rattle.cbase.specs.declared.structs.Field.{Field}
use Rattle.cbase.specs.declared.structs.StructDef.{StructDef}
use Rattle.cbase.specs.declared.tree.identifier.Identifier.{Identifier}
use Rattle.cbase.specs.Layout.{layout_of, fields_layout, no_fields}
use Rattle.typing.specs.declared.ctypes.found.Broken.{Broken}
use Rattle.typing.specs.declared.ctypes.found.Broken.TheVariants.{Construct, Rule}
use Rattle.typing.specs.ctypes.Kinds.{has_size}
use Rattle.typing.specs.declared.fault.Fault.{Fault}
use Rattle.typing.specs.declared.size.Size.{Size}
use Rattle.typing.specs.declared.size.Size.TheVariants.{Counted, NotConstant, LeftOut}
use Rattle.typing.specs.Entities.{TagHere, StructHere, EnumHere}
use Rattle.typing.specs.Faults.{fault, unless, all_at}
use Rattle.typing.specs.Forms.{MemberParts}
use Rattle.typing.specs.Language.{Language}
use Rattle.typing.specs.NamedTypes.{NamedType, declared_type, declared, is_large, is_over}
use Rattle.typing.specs.Outcomes.{Outcome, Handed, Passes, Refused}

-- what braces are of: something that they may give its contents, or something that this scope has with its contents already
pub data Opening (A : Type 0) : Type 0 where
  Opens : A → Opening A
  IsTwice : Fault → Opening A

-- a struct with a tag, by what this scope says of it: also inside its own braces it has members already
abbrev pub tagged_struct : (l : Language) → Identifier → l.Environment → Option TagHere → Opening (ℕ × l.Environment)
tagged_struct l name env None = Opens (length (l.structs env), l.struct_opened (Some name.name) env)
tagged_struct l name env (Some (StructHere number true)) = IsTwice (fault name.place (Rule 2))
tagged_struct l name env (Some (StructHere number false)) = Opens (number, l.struct_listed name.name number env)
tagged_struct l name env (Some (EnumHere listed)) = IsTwice (fault name.place (Rule 2))

-- the number of the struct whose members follow, and what is declared in front of them (C11 6.7.2.3p1, p4, p6)
abbrev pub struct_opening : (l : Language) → Option Identifier → l.Environment → Opening (ℕ × l.Environment)
struct_opening l None env = Opens (length (l.structs env), l.struct_opened None env)
struct_opening l (Some name) env = tagged_struct l name env (l.tag_here name.name env)

-- the same of an enum
abbrev pub tagged_enum : (l : Language) → Identifier → l.Environment → Option TagHere → Opening l.Environment
tagged_enum l name env None = Opens (l.enum_listed (Some name.name) env)
tagged_enum l name env (Some (StructHere number listed)) = IsTwice (fault name.place (Rule 2))
tagged_enum l name env (Some (EnumHere true)) = IsTwice (fault name.place (Rule 2))
tagged_enum l name env (Some (EnumHere false)) = Opens (l.enum_listed (Some name.name) env)

abbrev pub enum_opening : (l : Language) → Option Identifier → l.Environment → Opening l.Environment
enum_opening l None env = Opens (l.enum_listed None env)
enum_opening l (Some name) env = tagged_enum l name env (l.tag_here name.name env)

-- a size of a member, which is given, is an integer constant expression (C11 6.7.2.1p9)
abbrev pub fixed_size : Place → Size → List Handed → Outcome Size
fixed_size place (Counted count) handed = Passes (Counted count) handed
fixed_size place NotConstant handed = Refused (fault place (Rule 9))
fixed_size place LeftOut handed = Passes LeftOut handed

-- of a width only what is refused in it counts
abbrev pub width_found : {A : Type 0} → Outcome A → Outcome (Unit {0})
width_found (Passes told handed) = Passes tt handed
width_found (Refused first) = Refused first

-- whether one of these members has that name
abbrev pub has_member : Option (List ℕ) → List Field → Bool
has_member None fields = false
has_member (Some name) [] = false
has_member (Some name) (field ∷ fields) = bytes_eq name field.name || has_member (Some name) fields

-- a member; what has no name is a field of bits, which is refused
abbrev pub name_or_none : Option (List ℕ) → List ℕ
name_or_none None = []
name_or_none (Some name) = name

abbrev pub member : Option (List ℕ) → CType → Field
member name t = record { name = name_or_none name; ctype = t }

-- whether the struct of these members has more than 65,536 bytes, with its padding
abbrev pub is_large_struct : Abi → List StructDef → List Field → Bool
is_large_struct abi structs fields = is_over (fields_layout no_fields (map (λ field. layout_of abi structs field.ctype) fields))

-- the type at a name of a member: of the words, the stars and the sizes
abbrev pub member_type : Abi → List StructDef → NamedType → MemberParts → List Size → NamedType
member_type abi structs base parts counts =
    declared base parts.stars counts (is_large abi structs (declared_type base parts.stars counts))

-- what is broken at it: what is found of its type; a field of bits is construct 21; a struct of more than 65,536 bytes is construct 19; two
-- members of one name are rule 2 (6.2.3, 6.7p3), and a type without a size is rule 3 (6.7.2.1p3)
abbrev pub member_faults : Place → Option Broken → Bool → Bool → Bool → Bool → List Fault
member_faults place found of_bits large twice sized =
    all_at place found
    ++ (unless (not of_bits) place (Construct 21)
    ++ (unless (not large) place (Construct 19) ++ (unless (not twice) place (Rule 2) ++ unless sized place (Rule 3))))

abbrev pub faults_of_member : Abi → List StructDef → List Field → MemberParts → NamedType → List Fault
faults_of_member abi structs members parts named =
    member_faults parts.place named.found (is_some parts.bits) (is_large_struct abi structs (members ++ member parts.name named.ctype ∷ []))
    (has_member parts.name members) (has_size structs named.ctype)
