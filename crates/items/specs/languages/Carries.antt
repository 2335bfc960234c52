-- When one language says what another one does, by a map of what is declared.
use Rattle.std.specs.Prelude.{◌≡◌, ℕ, Bool, List, Option}
use Rattle.cbase.specs.declared.ctype.CType.{CType}
use Rattle.cbase.specs.declared.structs.Field.{Field}
use Rattle.typing.specs.Entities.{DeclaredType, Linked, Definition}
use Rattle.typing.specs.FileScope.{FileScope}
use Rattle.typing.specs.Items.{ItemSaying, FindsInFile}
use Rattle.typing.specs.Language.{Language}
use Rattle.typing.specs.Typing.{Saying, Finds}

-- `after` is made of `before` by a change, and is valid only where `before` is; the map leads from it to what the other language makes
pub record Follows {E F : Type 0} (to : E → F) (Valid : E → Type 0) (before after : E) (there : F) : Type 0 where
  pub valid : Valid before
  pub same : to after ≡ there

-- A language says of an environment what another one says of that to which a map leads, and what it changes there, where what comes of it is valid, the other one
-- changes too. So with their file scopes.
pub record Carries (l m : Language) (file : FileScope l) (other : FileScope m) (to : l.Environment → m.Environment) (Valid : l.Environment → Type 0) : Type 0 where
  pub abi : m.abi ≡ l.abi
  -- what is asked of an environment
  pub entity : (name : List ℕ) (env : l.Environment) → m.entity name (to env) ≡ l.entity name env
  pub tag : (name : List ℕ) (env : l.Environment) → m.tag name (to env) ≡ l.tag name env
  pub structs : (env : l.Environment) → m.structs (to env) ≡ l.structs env
  pub tag_here : (name : List ℕ) (env : l.Environment) → m.tag_here name (to env) ≡ l.tag_here name env
  pub is_declared_here : (name : List ℕ) (env : l.Environment) → m.is_declared_here name (to env) ≡ l.is_declared_here name env
  pub in_loop : (env : l.Environment) → m.in_loop (to env) ≡ l.in_loop env
  pub result : (env : l.Environment) → m.result (to env) ≡ l.result env
  pub name_here : (name : List ℕ) (env : l.Environment) → m.name_here name (to env) ≡ l.name_here name env
  pub linked : (name : List ℕ) (env : l.Environment) → m.linked name (to env) ≡ l.linked name env
  pub visible_type : (name : List ℕ) (env : l.Environment) → m.visible_type name (to env) ≡ l.visible_type name env
  pub strict : (env : l.Environment) → m.strict (to env) ≡ l.strict env
  pub definition : (name : List ℕ) (env : l.Environment) → other.definition name (to env) ≡ file.definition name env
  pub first_token : (name : List ℕ) (env : l.Environment) → other.first_token name (to env) ≡ file.first_token name env
  -- tags, structs and enums
  pub struct_declared : (name : List ℕ) (env : l.Environment) → Valid (l.struct_declared name env)
      → Follows to Valid env (l.struct_declared name env) (m.struct_declared name (to env))
  pub enum_declared : (name : List ℕ) (env : l.Environment) → Valid (l.enum_declared name env)
      → Follows to Valid env (l.enum_declared name env) (m.enum_declared name (to env))
  pub struct_opened : (name : Option (List ℕ)) (env : l.Environment) → Valid (l.struct_opened name env)
      → Follows to Valid env (l.struct_opened name env) (m.struct_opened name (to env))
  pub struct_listed : (name : List ℕ) (number : ℕ) (env : l.Environment) → Valid (l.struct_listed name number env)
      → Follows to Valid env (l.struct_listed name number env) (m.struct_listed name number (to env))
  pub struct_completed : (number : ℕ) (fields : List Field) (env : l.Environment) → Valid (l.struct_completed number fields env)
      → Follows to Valid env (l.struct_completed number fields env) (m.struct_completed number fields (to env))
  pub enum_listed : (name : Option (List ℕ)) (env : l.Environment) → Valid (l.enum_listed name env)
      → Follows to Valid env (l.enum_listed name env) (m.enum_listed name (to env))
  pub constant_declared : (name : List ℕ) (bits : ℕ) (env : l.Environment) → Valid (l.constant_declared name bits env)
      → Follows to Valid env (l.constant_declared name bits env) (m.constant_declared name bits (to env))
  -- where the place lies; a scope that is left takes nothing with it that validity asks for
  pub entered : (env : l.Environment) → Valid (l.entered env) → Follows to Valid env (l.entered env) (m.entered (to env))
  pub left : (env : l.Environment) → Valid (l.left env) → Follows to Valid env (l.left env) (m.left (to env))
  pub left_valid : (env : l.Environment) → Valid env → Valid (l.left env)
  pub loop_set : (set : Bool) (env : l.Environment) → Valid (l.loop_set set env) → Follows to Valid env (l.loop_set set env) (m.loop_set set (to env))
  pub result_set : (result : Option CType) (env : l.Environment) → Valid (file.result_set result env)
      → Follows to Valid env (file.result_set result env) (other.result_set result (to env))
  -- names
  pub object_declared : (name : List ℕ) (token : ℕ) (fixed : Bool) (t : DeclaredType) (env : l.Environment) → Valid (l.object_declared name token fixed t env)
      → Follows to Valid env (l.object_declared name token fixed t env) (m.object_declared name token fixed t (to env))
  pub typedef_declared : (name : List ℕ) (t : DeclaredType) (env : l.Environment) → Valid (l.typedef_declared name t env)
      → Follows to Valid env (l.typedef_declared name t env) (m.typedef_declared name t (to env))
  pub linked_declared : (name : List ℕ) (token : ℕ) (items : Option CType) (linked : Linked) (env : l.Environment) → Valid (l.linked_declared name token items linked env)
      → Follows to Valid env (l.linked_declared name token items linked env) (m.linked_declared name token items linked (to env))
  pub definition_set : (name : List ℕ) (definition : Definition) (env : l.Environment) → Valid (file.definition_set name definition env)
      → Follows to Valid env (file.definition_set name definition env) (other.definition_set name definition (to env))
  pub declared_around : (name : List ℕ) (token : ℕ) (linked : Linked) (env : l.Environment) → Valid (file.declared_around name token linked env)
      → Follows to Valid env (file.declared_around name token linked env) (other.declared_around name token linked (to env))
  pub main_parameter : (name : List ℕ) (token : ℕ) (t : CType) (env : l.Environment) → Valid (file.main_parameter name token t env)
      → Follows to Valid env (file.main_parameter name token t env) (other.main_parameter name token t (to env))

-- what is found by the one of two languages between two environments, of which the second is valid, is found by the other between those to which they lead
pub record Carried (l m : Language) (file : FileScope l) (other : FileScope m) (to : l.Environment → m.Environment) (Valid : l.Environment → Type 0) : Type 0 where
  pub parts : (before : l.Environment) (saying : Saying) (after : l.Environment) → Finds l before saying after → Valid after
      → Finds m (to before) saying (to after) × Valid before
  pub items : (before : l.Environment) (saying : ItemSaying) (after : l.Environment) → FindsInFile l file before saying after → Valid after
      → FindsInFile m other (to before) saying (to after) × Valid before
