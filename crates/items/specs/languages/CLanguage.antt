-- The language of C, as far as typing asks for it: what is declared at a place of a text, and what each declaration changes of that (C11 6.2.1 to 6.2.4,
-- 6.7 and 6.9).
use Rattle.std.specs.Prelude.{ℕ, ◌++◌, Bool, true, false, List, [], ◌∷◌, Option, None, Some, is_some, length, option_map, option_and_then, if◌then◌else◌}
use Rattle.cbase.specs.declared.abi.Abi.{Abi}
use Rattle.cbase.specs.declared.ctype.CType.{CType}
use Rattle.cbase.specs.declared.structs.Field.{Field}
use Rattle.cbase.specs.declared.structs.StructDef.{StructDef}
use Rattle.cbase.specs.Completing.{fieldless, may_complete, completed}
use Rattle.typing.specs.environment.Names.{Entries, value_in, with_value}
use Rattle.typing.specs.environment.Scopes.{Scopes, found, found_here, declared, declared_around, entered, left}
use Rattle.typing.specs.Entities.{TagHere, StructHere, EnumHere, DeclaredType, WholeType, Linked, ObjectLinked, FunctionLinked, Definition}
use Rattle.typing.specs.FileScope.{FileScope}
use Rattle.typing.specs.Language.{Language}
use Rattle.items.specs.languages.Meanings.{AnObject, AFunction, AConstant, ATypedef, Binding, Own, WithLinkage, Link, meaning_of, entity_of, here_by, linked_by, visible_in, tag_of, first_token, built_in_before, definition_before}

-- What is declared at a place: names and tags, which are two name spaces (6.2.3), by scope, the innermost first; what has linkage under a name, in
-- whatever scope; and the structs, each at its number. And where the place lies: whether in the body of a loop, and in a function of which result,
-- if in one. Of the text it is known whether `main` may not be called in it, and which names it defines, before the place or behind it.
pub record Declarations : Type 0 where
  pub names : Scopes Binding
  pub tags : Scopes TagHere
  pub links : Entries Link
  pub structs : List StructDef
  pub in_loop : Bool
  pub result : Option CType
  pub strict : Bool
  pub defines : List ℕ → Bool

-- a name, and a tag, is declared in the innermost scope
abbrev pub bound : List ℕ → Binding → Declarations → Declarations
bound name binding env = record env { names = declared name binding env.names }

abbrev pub tagged : List ℕ → TagHere → Declarations → Declarations
tagged name tag env = record env { tags = declared name tag env.tags }

-- a name is declared in the scope around the innermost one
abbrev pub bound_around : List ℕ → Binding → Declarations → Declarations
bound_around name binding env = record env { names = declared_around name binding env.names }

-- inside one more scope, and outside the innermost one, whose names and tags end there (6.2.1p4)
abbrev pub scope_entered : Declarations → Declarations
scope_entered env = record env { names = entered env.names; tags = entered env.tags }

abbrev pub scope_left : Declarations → Declarations
scope_left env = record env { names = left env.names; tags = left env.tags }

-- a struct without members has the number behind all others; with its tag, where it has one (6.7.2.3p8)
abbrev pub struct_added : List ℕ → Declarations → Declarations
struct_added name env = record env { structs = env.structs ++ fieldless name ∷ [] }

-- its members are listed from here on or not
abbrev pub struct_tagged : Bool → List ℕ → Declarations → Declarations
struct_tagged listed name env = struct_added name (tagged name (StructHere (length env.structs) listed) env)

abbrev pub struct_declared : List ℕ → Declarations → Declarations
struct_declared name env = struct_tagged false name env

abbrev pub struct_opened : Option (List ℕ) → Declarations → Declarations
struct_opened None env = struct_added [] env
struct_opened (Some name) env = struct_tagged true name env

-- a struct with its members, where it may have them: it has none yet, and each of them has a size (6.7.2.1p3, p8)
abbrev pub struct_completed : ℕ → List Field → Declarations → Declarations
struct_completed number fields env = record env {
  structs = (if may_complete env.structs number fields then completed env.structs number fields else env.structs);
}

-- an enum whose constants are listed from here on, and a constant of an enum (6.7.2.2)
abbrev pub enum_listed : Option (List ℕ) → Declarations → Declarations
enum_listed None env = env
enum_listed (Some name) env = tagged name (EnumHere true) env

abbrev pub constant_declared : List ℕ → ℕ → Declarations → Declarations
constant_declared name bits env = bound name (Own (AConstant bits)) env

-- an object without linkage needs no definition elsewhere, and a typedef (6.7.8)
abbrev pub object_declared : List ℕ → ℕ → Bool → DeclaredType → Declarations → Declarations
object_declared name token fixed t env =
    bound name (Own (AnObject (record { ctype = t; token = token; defined = true; of_main = false; fixed = fixed }))) env

abbrev pub typedef_declared : List ℕ → DeclaredType → Declarations → Declarations
typedef_declared name t env = bound name (Own (ATypedef t)) env

-- what has linkage is known by the name that declared it first, and is built in where it was so before. An object of that kind lives as long as the
-- program runs (6.2.4p3)
abbrev pub link_by : ℕ → Bool → Linked → Option Link → Link
link_by token defined (ObjectLinked t) before = record {
  meaning = AnObject (record { ctype = t; token = first_token before token; defined = defined; of_main = false; fixed = true });
  definition = definition_before before;
}
link_by token defined (FunctionLinked result params) before = record {
  meaning = AFunction (record { result = result; params = params; defined = defined; built_in = built_in_before before });
  definition = definition_before before;
}

abbrev pub linked_as : List ℕ → ℕ → Linked → Declarations → Declarations
linked_as name token linked env = record env {
  links = with_value name (link_by token (env.defines name) linked (value_in name env.links)) env.links;
}

-- a name that has linkage is declared in the innermost scope, with the items of an array of which no visible declaration gives the size (6.2.7p4); and in the one
-- around it
abbrev pub linked_declared : List ℕ → ℕ → Option CType → Linked → Declarations → Declarations
linked_declared name token items linked env = bound name (WithLinkage items) (linked_as name token linked env)

abbrev pub linked_declared_around : List ℕ → ℕ → Linked → Declarations → Declarations
linked_declared_around name token linked env = bound_around name (WithLinkage None) (linked_as name token linked env)

abbrev pub c_language : Abi → Language
c_language abi = record {
  abi = abi;
  Environment = Declarations;
  entity = λ name env. option_map entity_of (meaning_of name env.links (found name env.names));
  tag = λ name env. option_map tag_of (found name env.tags);
  structs = λ env. env.structs;
  struct_declared = struct_declared;
  enum_declared = λ name env. tagged name (EnumHere false) env;
  entered = scope_entered;
  left = scope_left;
  tag_here = λ name env. found_here name env.tags;
  struct_opened = struct_opened;
  struct_listed = λ name number env. tagged name (StructHere number true) env;
  struct_completed = struct_completed;
  enum_listed = enum_listed;
  is_declared_here = λ name env. is_some (found_here name env.names);
  constant_declared = constant_declared;
  in_loop = λ env. env.in_loop;
  loop_set = λ in_loop env. record env { in_loop = in_loop };
  result = λ env. env.result;
  name_here = λ name env. option_map here_by (found_here name env.names);
  linked = λ name env. option_and_then (λ link. linked_by link.meaning) (value_in name env.links);
  visible_type = λ name env. visible_in name env.links (found name env.names);
  object_declared = object_declared;
  typedef_declared = typedef_declared;
  linked_declared = linked_declared;
  strict = λ env. env.strict;
}

-- the text has so much for what has linkage under a name; where nothing has, nothing changes
abbrev pub definition_set : List ℕ → Definition → Option Link → Declarations → Declarations
definition_set name definition None env = env
definition_set name definition (Some link) env = record env { links = with_value name (record link { definition = definition }) env.links }

-- a parameter of `main`, which the body of `main` may not name
abbrev pub main_parameter : List ℕ → ℕ → CType → Declarations → Declarations
main_parameter name token t env =
    bound name (Own (AnObject (record { ctype = WholeType t; token = token; defined = true; of_main = true; fixed = false }))) env

abbrev pub c_file : (abi : Abi) → FileScope (c_language abi)
c_file abi = record {
  definition = λ name env. definition_before (value_in name env.links);
  definition_set = λ name definition env. definition_set name definition (value_in name env.links) env;
  first_token = λ name env. first_token (value_in name env.links) 0;
  declared_around = linked_declared_around;
  main_parameter = main_parameter;
  result_set = λ result env. record env { result = result };
}
