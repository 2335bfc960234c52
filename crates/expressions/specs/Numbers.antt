-- What the numbers stand for that types and signatures have in a context.
--
-- A number keeps what it stands for, and more are only given out behind the others. So a numbering of all that will ever be there says what is
-- meant by a number now and later alike.
use Rattle.std.specs.Prelude.{◌<◌, ℕ, Bool, true, false, List, map, Option, None, Some, option_map}
use Rattle.cbase.specs.declared.ctype.CType.{CType}
use Rattle.cbase.specs.declared.structs.Field.{Field}
use Rattle.cbase.specs.declared.structs.StructDef.{StructDef}
use Rattle.typing.specs.declared.ctypes.structs.Member.{Member}
use Rattle.typing.specs.declared.environment.entity.DeclaredType.{DeclaredType}
use Rattle.typing.specs.declared.environment.entity.DeclaredType.TheVariants.{Whole, UnsizedArray}
use Rattle.typing.specs.declared.environment.entity.Lifetime.{Lifetime}
use Rattle.typing.specs.declared.environment.entity.Lifetime.TheVariants.{Automatic, Static, MainParameter}
use Rattle.typing.specs.declared.environment.entity.Entity.{Entity as EntityByNumber}
use Rattle.typing.specs.declared.environment.entity.Entity.TheVariants.{Object, Typedef, Enumerator, Function}
use Rattle.typing.specs.declared.environment.entity.Binding.{Binding}
use Rattle.typing.specs.declared.environment.entity.Binding.TheVariants.{Own, WithLinkage}
use Rattle.typing.specs.declared.environment.entity.Linked.{Linked as LinkedByNumber}
use Rattle.typing.specs.declared.environment.entity.Signature.{Signature}
use Rattle.typing.specs.declared.environment.entity.Tag.{Tag as TagByNumber}
use Rattle.typing.specs.declared.environment.entity.Tag.TheVariants.{Struct, Enum}
use Rattle.typing.specs.declared.ctypes.found.Outcome.{Outcome as Operated}
use Rattle.typing.specs.declared.ctypes.found.Outcome.TheVariants.{Typed as TypedByNumber, Broken as BrokenHere}
use Rattle.typing.specs.declared.ctypes.operand.Operand.{Operand as OperandByNumber}
use Rattle.typing.specs.ctypes.Broken.{Judgement, Typed, Breaks}
use Rattle.typing.specs.ctypes.Kinds.{kind_of}
use Rattle.typing.specs.ctypes.Operands.{Operand}
use Rattle.typing.specs.Entities.{Entity, ObjectIs, FunctionIs, EnumeratorIs, TypedefIs, FunctionEntity, Tag, StructTag, EnumTag, TagHere, StructHere, EnumHere, DeclaredType as TypeDeclared, WholeType, ItemsOf, Linked, ObjectLinked, FunctionLinked, NameHere, OwnHere, TypedefHere, LinkedHere}
use Rattle.typing.specs.Known.{Known}
use Rattle.typing.specs.NamedTypes.{NamedType}
use Rattle.typing.specs.Outcomes.{Handed, ExpressionHanded, StoreHanded, ObjectHanded, LinkHanded, FunctionHanded, ParameterHanded}
use Rattle.expressions.specs.declared.known.Known.{Known as KnownByNumber}
use Rattle.expressions.specs.declared.handed_row.HandedRow.{HandedRow}
use Rattle.expressions.specs.declared.handed_row.HandedRow.TheVariants.{Expression as ExpressionRow, Store as StoreRow, Object as ObjectRow, Link as LinkRow, Function as FunctionRow, Parameter as ParameterRow}
use Rattle.expressions.specs.declared.named_type.NamedType.{NamedType as NamedByNumber}

pub record Numbering : Type 0 where
  pub ctype : ℕ → CType
  -- and which number a type has that has one
  pub number : CType → ℕ
  pub signature : ℕ → Signature

-- the type of an object or a typedef; an array whose size is not known has none that can be written down
abbrev pub declared_at : Numbering → DeclaredType → Option CType
declared_at n (Whole number) = Some (n.ctype number)
declared_at n (UnsizedArray item) = None

abbrev pub is_of_main : Lifetime → Bool
is_of_main Automatic = false
is_of_main Static = false
is_of_main MainParameter = true

-- whether it lives as long as the program runs (C11 6.2.4p3)
abbrev pub is_fixed : Lifetime → Bool
is_fixed Automatic = false
is_fixed Static = true
is_fixed MainParameter = false

abbrev pub function_at : Numbering → Signature → Bool → Bool → FunctionEntity
function_at n signature defined built_in = record {
  result = n.ctype signature.result;
  params = map n.ctype signature.parameters;
  defined = defined;
  built_in = built_in;
}

-- what a name stands for
abbrev pub entity_at : Numbering → EntityByNumber → Entity
entity_at n (Object ctype token lifetime defined) =
    ObjectIs (record { ctype = declared_at n ctype; token = token; defined = defined; of_main = is_of_main lifetime; fixed = is_fixed lifetime })
entity_at n (Typedef ctype) = TypedefIs (declared_at n ctype)
entity_at n (Enumerator bits) = EnumeratorIs bits
entity_at n (Function signature defined built_in) = FunctionIs (function_at n (n.signature signature) defined built_in)

-- what a tag stands for
abbrev pub tag_at : TagByNumber → Tag
tag_at (Struct number listed) = StructTag number
tag_at (Enum listed) = EnumTag

-- what a tag of the innermost scope stands for
abbrev pub tag_here_at : TagByNumber → TagHere
tag_here_at (Struct number listed) = StructHere number listed
tag_here_at (Enum listed) = EnumHere listed

-- the type that a declaration gave
abbrev pub declared_type_at : Numbering → DeclaredType → TypeDeclared
declared_type_at n (Whole number) = WholeType (n.ctype number)
declared_type_at n (UnsizedArray item) = ItemsOf (n.ctype item)

-- what a scope says of a name: a typedef with its type, anything else of its own, or that it has linkage
abbrev pub own_at : Numbering → EntityByNumber → NameHere
own_at n (Typedef ctype) = TypedefHere (declared_type_at n ctype)
own_at n (Object ctype token lifetime defined) = OwnHere
own_at n (Enumerator bits) = OwnHere
own_at n (Function signature defined built_in) = OwnHere

abbrev pub name_here_at : Numbering → Binding → NameHere
name_here_at n (Own entity) = own_at n entity
name_here_at n (WithLinkage items) = LinkedHere

-- what has linkage under a name: an object or a function
abbrev pub linked_entity_at : Numbering → EntityByNumber → Option Linked
linked_entity_at n (Object ctype token lifetime defined) = Some (ObjectLinked (declared_type_at n ctype))
linked_entity_at n (Function signature defined built_in) = Some (FunctionLinked (n.ctype (n.signature signature).result) (map n.ctype (n.signature signature).parameters))
linked_entity_at n (Typedef ctype) = None
linked_entity_at n (Enumerator bits) = None

abbrev pub linked_at : Numbering → LinkedByNumber → Option Linked
linked_at n meaning = linked_entity_at n meaning.entity

-- what is known of an expression, and what is handed on
abbrev pub known_at : Numbering → KnownByNumber → Known
known_at n known = record {
  ctype = n.ctype known.ctype;
  lvalue = known.lvalue;
  null = known.null;
  value = known.value;
  idiom = known.idiom;
  stands = option_map (entity_at n) known.stands;
}

abbrev pub handed_at : Numbering → HandedRow → Handed
handed_at n (ExpressionRow number ctype stands value) =
    ExpressionHanded (record { number = number; ctype = n.ctype ctype; stands = option_map (entity_at n) stands; value = value })
handed_at n (StoreRow object offset ctype number) = StoreHanded (record { object = object; offset = offset; ctype = n.ctype ctype; number = number })
handed_at n (ObjectRow token ctype fixed zeroed) = ObjectHanded (record { token = token; ctype = n.ctype ctype; fixed = fixed; zeroed = zeroed })
handed_at n (LinkRow token first) = LinkHanded (record { token = token; first = first })
handed_at n (FunctionRow token result) = FunctionHanded (record { token = token; result = n.ctype result })
handed_at n (ParameterRow token ctype) = ParameterHanded (record { token = token; ctype = n.ctype ctype })

abbrev pub row_of : ℕ → KnownByNumber → HandedRow
row_of number known = ExpressionRow number known.ctype known.stands known.value

-- a type with what is found of it
abbrev pub named_at : Numbering → NamedByNumber → NamedType
named_at n named = record { ctype = n.ctype named.ctype; found = named.found }

-- the members of a struct
abbrev pub field_at : Numbering → Member → Field
field_at n member = record { name = member.name; ctype = n.ctype member.ctype }

abbrev pub fields_at : Numbering → List Member → List Field
fields_at n members = map (field_at n) members

-- an operand of an operator
abbrev pub operand_at : Numbering → List StructDef → OperandByNumber → Operand
operand_at n structs operand = record {
  ctype = n.ctype operand.ctype;
  kind = kind_of structs (n.ctype operand.ctype);
  lvalue = operand.lvalue;
  null = operand.null;
}

abbrev pub operand_in : KnownByNumber → OperandByNumber
operand_in known = record { ctype = known.ctype; lvalue = known.lvalue; null = known.null }

-- what is found at an operator
abbrev pub judgement_at : Numbering → Operated → Judgement
judgement_at n (TypedByNumber number) = Typed (n.ctype number)
judgement_at n (BrokenHere broken) = Breaks broken

-- the number that an operation's type has is that of a type among so many
abbrev pub IsTypedBelow : ℕ → Operated → Type 0
IsTypedBelow count (TypedByNumber number) = number < count
IsTypedBelow count (BrokenHere broken) = Unit {0}
