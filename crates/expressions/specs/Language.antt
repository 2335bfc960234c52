-- The language of a context: what it declares, by numbers that are read by a numbering.
use Rattle.std.specs.Prelude.{ℕ, ◌++◌, Bool, true, false, List, [], ◌∷◌, map, Option, None, Some, is_some, length, option_map, option_and_then, if◌then◌else◌}
use Rattle.cbase.specs.declared.abi.Abi.{Abi}
use Rattle.cbase.specs.declared.ctype.CType.{CType}
use Rattle.cbase.specs.declared.structs.Field.{Field}
use Rattle.cbase.specs.Completing.{fieldless, may_complete, completed}
use Rattle.typing.specs.declared.environment.entity.Binding.TheVariants.{Own}
use Rattle.typing.specs.declared.environment.entity.DeclaredType.{DeclaredType as DeclaredByNumber}
use Rattle.typing.specs.declared.environment.entity.DeclaredType.TheVariants.{Whole, UnsizedArray}
use Rattle.typing.specs.declared.environment.entity.Definition.{Definition as DefinitionByNow}
use Rattle.typing.specs.declared.environment.entity.Definition.TheVariants.{NotDefined}
use Rattle.typing.specs.declared.environment.entity.Entity.{Entity as EntityByNumber}
use Rattle.typing.specs.declared.environment.entity.Entity.TheVariants.{Object, Typedef, Enumerator, Function}
use Rattle.typing.specs.declared.environment.entity.Lifetime.{Lifetime}
use Rattle.typing.specs.declared.environment.entity.Lifetime.TheVariants.{Automatic, Static}
use Rattle.typing.specs.declared.environment.entity.Linked.{Linked as LinkedByNumber}
use Rattle.typing.specs.declared.environment.environment.Environment.{Environment}
use Rattle.typing.specs.declared.environment.entity.Tag.TheVariants.{Struct, Enum}
use Rattle.typing.specs.declared.environment.entity.TagForm.TheVariants.{Declared as DeclaredHere, Mentioned}
use Rattle.typing.specs.environment.Environment.{name_found, visible_type, tag_found, scope_entered, scope_left, name_bound, tag_declared, signature_added, loop_set}
use Rattle.typing.specs.environment.Linkage.{linked_declared, own_declared}
use Rattle.typing.specs.environment.Names.{value_in}
use Rattle.typing.specs.environment.Scopes.{found_here}
use Rattle.typing.specs.Entities.{DeclaredType, WholeType, ItemsOf, Linked, ObjectLinked, FunctionLinked}
use Rattle.typing.specs.Language.{Language}
use Rattle.expressions.specs.Context.{Declared}
use Rattle.expressions.specs.Numbers.{Numbering, entity_at, tag_at, tag_here_at, name_here_at, linked_at}

-- a struct without members has the number behind all others
abbrev pub struct_added : List ℕ → Declared → Declared
struct_added name before = record before { structs = before.structs ++ fieldless name ∷ [] }

-- a struct that a tag declares, whose members are listed from here on or not
abbrev pub struct_tagged : Bool → List ℕ → Declared → Declared
struct_tagged listed name before = record {
  environment = tag_declared name (Struct (length before.structs) listed) before.environment;
  structs = before.structs ++ fieldless name ∷ [];
}

abbrev pub struct_declared : List ℕ → Declared → Declared
struct_declared name before = struct_tagged false name before

abbrev pub enum_declared : List ℕ → Declared → Declared
enum_declared name before = record before { environment = tag_declared name (Enum false) before.environment }

abbrev pub entered : Declared → Declared
entered before = record before { environment = scope_entered before.environment }

abbrev pub left : Declared → Declared
left before = record before { environment = scope_left before.environment }

-- a struct whose members follow, with its tag or without one
abbrev pub struct_opened : Option (List ℕ) → Declared → Declared
struct_opened None before = struct_added [] before
struct_opened (Some name) before = struct_tagged true name before

-- a struct of that number, whose tag stands here without members, and whose members follow
abbrev pub struct_listed : List ℕ → ℕ → Declared → Declared
struct_listed name number before = record before { environment = tag_declared name (Struct number true) before.environment }

-- a struct with its members, where it may have them: it has none yet, and each of them has a size
abbrev pub struct_completed : ℕ → List Field → Declared → Declared
struct_completed number fields before = record before {
  structs = (if may_complete before.structs number fields then completed before.structs number fields else before.structs);
}

-- an enum whose constants follow
abbrev pub enum_listed : Option (List ℕ) → Declared → Declared
enum_listed None before = before
enum_listed (Some name) before = record before { environment = tag_declared name (Enum true) before.environment }

-- a constant of an enum
abbrev pub constant_declared : List ℕ → ℕ → Declared → Declared
constant_declared name bits before = record before { environment = name_bound name (Own (Enumerator bits)) before.environment }

-- the number of a type that a declaration gives
abbrev pub declared_number : Numbering → DeclaredType → DeclaredByNumber
declared_number n (WholeType t) = Whole (n.number t)
declared_number n (ItemsOf item) = UnsizedArray (n.number item)

-- an object lives as long as its block runs, or as long as the program (C11 6.2.4p3, p5)
abbrev pub lifetime_of : Bool → Lifetime
lifetime_of true = Static
lifetime_of false = Automatic

-- an object without linkage, and a typedef
abbrev pub object_declared : Numbering → List ℕ → ℕ → Bool → DeclaredType → Declared → Declared
object_declared n name token fixed t before =
    record before { environment = own_declared name (Object (declared_number n t) token (lifetime_of fixed) true) before.environment }

abbrev pub typedef_declared : Numbering → List ℕ → DeclaredType → Declared → Declared
typedef_declared n name t before = record before { environment = own_declared name (Typedef (declared_number n t)) before.environment }

-- what the text so far has for what has linkage under a name, and whether it is built in
abbrev pub definition_by_now : Option LinkedByNumber → DefinitionByNow
definition_by_now None = NotDefined
definition_by_now (Some meaning) = meaning.definition

abbrev pub is_built_in_entity : EntityByNumber → Bool
is_built_in_entity (Function signature defined built_in) = built_in
is_built_in_entity (Object ctype token lifetime defined) = false
is_built_in_entity (Typedef ctype) = false
is_built_in_entity (Enumerator bits) = false

abbrev pub built_in_by_now : Option LinkedByNumber → Bool
built_in_by_now None = false
built_in_by_now (Some meaning) = is_built_in_entity meaning.entity

-- an object is known by the name that declared it first
abbrev pub token_in : EntityByNumber → ℕ → ℕ
token_in (Object ctype first lifetime defined) token = first
token_in (Function signature defined built_in) token = token
token_in (Typedef ctype) token = token
token_in (Enumerator bits) token = token

abbrev pub token_by_now : Option LinkedByNumber → ℕ → ℕ
token_by_now None token = token
token_by_now (Some meaning) token = token_in meaning.entity token

-- an object with linkage lives as long as the program runs (C11 6.2.4p3). Whether the whole text defines it, or has a body of a function, is known before
abbrev pub linked_object : DeclaredByNumber → ℕ → Bool → DefinitionByNow → LinkedByNumber
linked_object t token defined by_now = record { entity = Object t token Static defined; definition = by_now }

abbrev pub linked_function : ℕ → Bool → Bool → DefinitionByNow → LinkedByNumber
linked_function signature defined built_in by_now = record { entity = Function signature defined built_in; definition = by_now }

-- what has linkage under a name is declared with it, in the innermost scope or in the one around that; where no visible declaration gives the size of an
-- array, with the number of the type of its items
abbrev pub name_linked_by : (List ℕ → Option ℕ → LinkedByNumber → Environment → Environment) → Numbering → List ℕ → ℕ → Option CType → Linked → Declared → Declared
name_linked_by declares n name token items (ObjectLinked t) before = record before {
  environment = declares name (option_map n.number items)
      (linked_object (declared_number n t) (token_by_now (value_in name before.environment.linked) token) (is_some (value_in name before.environment.definitions)) (definition_by_now (value_in name before.environment.linked)))
      before.environment;
}
name_linked_by declares n name token items (FunctionLinked result params) before = record before {
  environment = declares name (option_map n.number items)
      (linked_function (length before.environment.signatures) (is_some (value_in name before.environment.definitions))
      (built_in_by_now (value_in name before.environment.linked)) (definition_by_now (value_in name before.environment.linked)))
      (signature_added (record { result = n.number result; parameters = map n.number params }) before.environment);
}

abbrev pub name_linked_as : Numbering → List ℕ → ℕ → Option CType → Linked → Declared → Declared
name_linked_as n name token items linked before = name_linked_by linked_declared n name token items linked before

abbrev pub language : Abi → Numbering → Language
language abi n = record {
  abi = abi;
  Environment = Declared;
  entity = λ name before. option_map (entity_at n) (name_found name before.environment);
  tag = λ name before. option_map tag_at (tag_found Mentioned name before.environment);
  structs = λ before. before.structs;
  struct_declared = struct_declared;
  enum_declared = enum_declared;
  entered = entered;
  left = left;
  tag_here = λ name before. option_map tag_here_at (tag_found DeclaredHere name before.environment);
  struct_opened = struct_opened;
  struct_listed = struct_listed;
  struct_completed = struct_completed;
  enum_listed = enum_listed;
  is_declared_here = λ name before. is_some (found_here name before.environment.names);
  constant_declared = constant_declared;
  in_loop = λ before. before.environment.in_loop;
  loop_set = λ in_loop before. record before { environment = loop_set in_loop before.environment };
  result = λ before. option_map n.ctype before.environment.result;
  name_here = λ name before. option_map (name_here_at n) (found_here name before.environment.names);
  linked = λ name before. option_and_then (linked_at n) (value_in name before.environment.linked);
  visible_type = λ name before. option_map n.ctype (visible_type name before.environment);
  object_declared = object_declared n;
  typedef_declared = typedef_declared n;
  linked_declared = name_linked_as n;
  strict = λ before. before.environment.strict;
}
