-- What is declared where the expressions of the examples stand, by LP64:
--
--     enum { five = 5, none };    typedef char T;    struct s { int a; char *b; };    struct t;    struct v { int a; char e[3]; };
--     int n; unsigned u; char c; long w; _Bool truth; void *p; int *q; char row[3]; char vast[70000];
--     struct s x; struct s *r; struct t *z;
--     extern int open[];    int f(int, char *); void g(void);    extern int missing; int lost(void);
--
-- and the built-in functions `malloc`, `calloc` and `free`. The last two have no definition, and `open` has its size behind this
-- place. `count` is a parameter of `main`. `vast` is larger than an object can be.
use Rattle.std.specs.Prelude.{◌≡◌, ℕ, Bool, true, false, List, [], ◌∷◌, ◌++◌, Option, None, Some, is_some, option_map, option_and_then, codes, length, if◌then◌else◌}
use Rattle.std.specs.Str.{bytes_eq}
use Rattle.cbase.specs.declared.abi.Abi.TheVariants.{Lp64}
use Rattle.cbase.specs.declared.ctype.CType.{CType}
use Rattle.cbase.specs.declared.ctype.CType.TheVariants.{Void as VoidType, Bool as BoolType, Int as IntType, Pointer as PointerType, Struct as StructType, Array as ArrayType}
use Rattle.cbase.specs.declared.place.Place.{Place}
use Rattle.cbase.specs.declared.structs.StructDef.{StructDef}
use Rattle.cbase.specs.declared.tree.decl.Decl.{Decl}
use Rattle.cbase.specs.declared.tree.decl.Declared.{Declared}
use Rattle.cbase.specs.declared.tree.decl.Param.{Param}
use Rattle.cbase.specs.declared.tree.decl.Storage.{Storage}
use Rattle.cbase.specs.declared.tree.decl.TypeName.{TypeName}
use Rattle.cbase.specs.declared.tree.expr.Expr.{Expr}
use Rattle.cbase.specs.declared.tree.expr.ExprForm.{ExprForm}
use Rattle.cbase.specs.declared.tree.expr.ExprForm.TheVariants.{Name, Constant}
use Rattle.cbase.specs.declared.tree.expr.ExprForm.TheViews.{roll-TypeName, roll-FieldDecl, roll-FieldName, roll-Enumerator, roll-Decl, roll-Declared, roll-Param, roll-InitPart}
use Rattle.cbase.specs.declared.tree.identifier.Identifier.{Identifier}
use Rattle.cbase.specs.declared.tree.init.Init.{Init}
use Rattle.cbase.specs.declared.tree.init.Init.TheVariants.{Value as ValueInit}
use Rattle.cbase.specs.declared.tree.init.InitPart.{InitPart}
use Rattle.cbase.specs.declared.tree.spec.Enumerator.{Enumerator}
use Rattle.cbase.specs.declared.tree.spec.FieldDecl.{FieldDecl}
use Rattle.cbase.specs.declared.tree.spec.FieldName.{FieldName}
use Rattle.cbase.specs.declared.tree.spec.TypeSpec.{TypeSpec}
use Rattle.cbase.specs.declared.tree.stmt.Stmt.{Stmt}
use Rattle.cbase.specs.declared.tree.stmt.StmtForm.{StmtForm}
use Rattle.cbase.specs.Completing.{fieldless, completed}
use Rattle.typing.specs.declared.ctypes.found.Broken.{Broken}
use Rattle.typing.specs.ctypes.Binary.{int_type}
use Rattle.typing.specs.ctypes.Unary.{size_type}
use Rattle.typing.specs.Entities.{Entity, ObjectEntity, FunctionEntity, DeclaredType, WholeType, ItemsOf, Linked, ObjectLinked, FunctionLinked, Definition, Tentative, Defined, NameHere, OwnHere, TypedefHere, LinkedHere, ObjectIs, FunctionIs, EnumeratorIs, TypedefIs, Tag, StructTag, EnumTag, TagHere, StructHere, EnumHere}
use Rattle.typing.specs.Faults.{fault}
use Rattle.typing.specs.Known.{Known}
use Rattle.typing.specs.Language.{Language}
use Rattle.typing.specs.Outcomes.{Handed, ExpressionHanded, Store, StoreHanded, ObjectRow, ObjectHanded, LinkHanded, FunctionHanded, ParameterHanded, Passes, Refused}
use Rattle.typing.specs.Typing.{ExpressionIs, StatementIs, Finds}

abbrev pub char_type : CType
char_type = IntType 1 true

abbrev pub unsigned_type : CType
unsigned_type = IntType 4 false

abbrev pub long_type : CType
long_type = IntType 8 true

-- objects, and one with a definition
abbrev pub object : CType → ObjectEntity
object t = record { ctype = Some t; token = 0; defined = true; of_main = false; fixed = true }

abbrev pub function : CType → List CType → FunctionEntity
function result params = record { result = result; params = params; defined = true; built_in = false }

abbrev pub built_in : CType → List CType → FunctionEntity
built_in result params = record { result = result; params = params; defined = false; built_in = true }

-- what names stand for
abbrev pub names : List (List ℕ × Entity)
names =
    (codes "five", EnumeratorIs 5)
    ∷ (codes "none", EnumeratorIs 0)
    ∷ (codes "T", TypedefIs (Some char_type))
    ∷ (codes "n", ObjectIs (object int_type))
    ∷ (codes "u", ObjectIs (object unsigned_type))
    ∷ (codes "c", ObjectIs (object char_type))
    ∷ (codes "w", ObjectIs (object long_type))
    ∷ (codes "truth", ObjectIs (object BoolType))
    ∷ (codes "p", ObjectIs (object (PointerType VoidType)))
    ∷ (codes "q", ObjectIs (object (PointerType int_type)))
    ∷ (codes "row", ObjectIs (object (ArrayType char_type 3)))
    ∷ (codes "vast", ObjectIs (object (ArrayType char_type 70000)))
    ∷ (codes "x", ObjectIs (object (StructType 0)))
    ∷ (codes "r", ObjectIs (object (PointerType (StructType 0))))
    ∷ (codes "z", ObjectIs (object (PointerType (StructType 1))))
    ∷ (codes "missing", ObjectIs (record { ctype = Some int_type; token = 0; defined = false; of_main = false; fixed = true }))
    ∷ (codes "open", ObjectIs (record { ctype = None; token = 0; defined = true; of_main = false; fixed = true }))
    ∷ (codes "count", ObjectIs (record { ctype = Some int_type; token = 0; defined = true; of_main = true; fixed = false }))
    ∷ (codes "f", FunctionIs (function int_type (int_type ∷ PointerType char_type ∷ [])))
    ∷ (codes "g", FunctionIs (function VoidType []))
    ∷ (codes "lost", FunctionIs (record { result = int_type; params = []; defined = false; built_in = false }))
    ∷ (codes "malloc", FunctionIs (built_in (PointerType VoidType) (size_type ∷ [])))
    ∷ (codes "calloc", FunctionIs (built_in (PointerType VoidType) (size_type ∷ size_type ∷ [])))
    ∷ (codes "free", FunctionIs (built_in VoidType (PointerType VoidType ∷ [])))
    ∷ []

-- what a list says of a name
abbrev pub named_in : {A : Type 0} → List (List ℕ × A) → List ℕ → Option A
named_in [] name = None
named_in (entry ∷ others) name = if bytes_eq name entry.0 then Some entry.1 else named_in others name

-- what has linkage of these names
abbrev pub linked_names : List (List ℕ × Linked)
linked_names =
    (codes "n", ObjectLinked (WholeType int_type))
    ∷ (codes "row", ObjectLinked (WholeType (ArrayType char_type 3)))
    ∷ (codes "missing", ObjectLinked (WholeType int_type))
    ∷ (codes "open", ObjectLinked (ItemsOf int_type))
    ∷ (codes "f", FunctionLinked int_type (int_type ∷ PointerType char_type ∷ []))
    ∷ (codes "g", FunctionLinked VoidType [])
    ∷ (codes "free", FunctionLinked VoidType (PointerType VoidType ∷ []))
    ∷ []

-- what a scope of the examples says of a name: it is its own, a typedef, or it has linkage, perhaps as an array of those items whose size is not known there
pub data ScopeName : Type 0 where
  OwnName : Entity → ScopeName
  TypedefName : DeclaredType → ScopeName
  LinkedName : Option CType → ScopeName

-- where a place lies; the names of the scopes inside that of the names above, the innermost first; the tags of the innermost scope, and those of
-- the others; structs; constants of enums beside those names; what has linkage, behind how many tokens it was declared first, if not behind none, and what
-- the text has for it
pub record Declarations : Type 0 where
  pub in_loop : Bool
  pub result : Option CType
  pub scopes : List (List (List ℕ × ScopeName))
  pub tags : List (List ℕ × TagHere)
  pub outer_tags : List (List (List ℕ × TagHere))
  pub structs : List StructDef
  pub constants : List (List ℕ × Entity)
  pub linked : List (List ℕ × Linked)
  pub tokens : List (List ℕ × ℕ)
  pub definitions : List (List ℕ × Definition)

abbrev pub tag_of : TagHere → Tag
tag_of (StructHere number listed) = StructTag number
tag_of (EnumHere listed) = EnumTag

-- the first of two answers, or the second where the first is none; and that of scopes
abbrev pub or_else : {A : Type 0} → Option A → Option A → Option A
or_else None other = other
or_else (Some answer) other = Some answer

abbrev pub named_through : {A : Type 0} → List (List (List ℕ × A)) → List ℕ → Option A
named_through [] name = None
named_through (scope ∷ scopes) name = or_else (named_in scope name) (named_through scopes name)

-- the type of an object or of a typedef; one that is not whole yet has none
abbrev pub whole_of : DeclaredType → Option CType
whole_of (WholeType t) = Some t
whole_of (ItemsOf item) = None

-- an object without linkage
abbrev pub own_object : ℕ → Bool → DeclaredType → ObjectEntity
own_object token fixed t = record { ctype = whole_of t; token = token; defined = true; of_main = false; fixed = fixed }

-- what has linkage stands for that
abbrev pub token_of : Option ℕ → ℕ
token_of None = 0
token_of (Some token) = token

abbrev pub linked_entity : ℕ → Option Linked → Option Entity
linked_entity token None = None
linked_entity token (Some (ObjectLinked t)) = Some (ObjectIs (own_object token true t))
linked_entity token (Some (FunctionLinked result params)) = Some (FunctionIs (function result params))

-- as a scope sees it
abbrev pub shown : Option CType → Linked → Linked
shown None linked = linked
shown (Some item) (ObjectLinked t) = ObjectLinked (ItemsOf item)
shown (Some item) (FunctionLinked result params) = FunctionLinked result params

abbrev pub entity_by : Declarations → List ℕ → Option ScopeName → Option Entity
entity_by env name None = named_in (env.constants ++ names) name
entity_by env name (Some (OwnName entity)) = Some entity
entity_by env name (Some (TypedefName t)) = Some (TypedefIs (whole_of t))
entity_by env name (Some (LinkedName items)) = linked_entity (token_of (named_in env.tokens name)) (option_map (shown items) (named_in env.linked name))

abbrev pub entity_in : Declarations → List ℕ → Option Entity
entity_in env name = entity_by env name (named_through env.scopes name)

-- what the innermost scope says of a name
abbrev pub said_by : ScopeName → NameHere
said_by (OwnName entity) = OwnHere
said_by (TypedefName t) = TypedefHere t
said_by (LinkedName items) = LinkedHere

abbrev pub said_in : List (List (List ℕ × ScopeName)) → Option Entity → List ℕ → Option NameHere
said_in [] outside name = option_map (λ entity. OwnHere) outside
said_in (scope ∷ scopes) outside name = option_map said_by (named_in scope name)

abbrev pub said_here : Declarations → List ℕ → Option NameHere
said_here env name = said_in env.scopes (entity_in env name) name

-- the type that visible declarations give an object with linkage
abbrev pub whole_linked : Linked → Option CType
whole_linked (ObjectLinked t) = whole_of t
whole_linked (FunctionLinked result params) = None

abbrev pub visible_by : Declarations → List ℕ → Option ScopeName → Option CType
visible_by env name None = option_and_then whole_linked (named_in linked_names name)
visible_by env name (Some (OwnName entity)) = None
visible_by env name (Some (TypedefName t)) = None
visible_by env name (Some (LinkedName (Some item))) = None
visible_by env name (Some (LinkedName None)) = option_and_then whole_linked (named_in env.linked name)

-- a name is declared in the innermost scope; a constant of an enum also beside the names above
abbrev pub bound_in : List ℕ → ScopeName → List (List (List ℕ × ScopeName)) → List (List (List ℕ × ScopeName))
bound_in name meaning [] = []
bound_in name meaning (scope ∷ scopes) = ((name, meaning) ∷ scope) ∷ scopes

abbrev pub bound : List ℕ → ScopeName → Declarations → Declarations
bound name meaning env = record env { scopes = bound_in name meaning env.scopes }

abbrev pub constant_bound : List (List (List ℕ × ScopeName)) → List ℕ → Entity → Declarations → Declarations
constant_bound [] name entity env = record env { constants = (name, entity) ∷ env.constants }
constant_bound (scope ∷ scopes) name entity env = bound name (OwnName entity) env

-- inside one more scope, and outside the innermost one
abbrev pub behind_first : {A : Type 0} → List (List A) → List (List A)
behind_first [] = []
behind_first (scope ∷ scopes) = scopes

abbrev pub first_of : {A : Type 0} → List (List A) → List A
first_of [] = []
first_of (scope ∷ scopes) = scope

abbrev pub scope_entered : Declarations → Declarations
scope_entered env = record env { scopes = [] ∷ env.scopes; tags = []; outer_tags = env.tags ∷ env.outer_tags }

abbrev pub scope_left : Declarations → Declarations
scope_left env = record env { scopes = behind_first env.scopes; tags = first_of env.outer_tags; outer_tags = behind_first env.outer_tags }

-- a struct without members, with its tag, whose members are listed or not, or without one
abbrev pub struct_tagged : Bool → List ℕ → Declarations → Declarations
struct_tagged listed name env = record env { tags = (name, StructHere (length env.structs) listed) ∷ env.tags; structs = env.structs ++ fieldless name ∷ [] }

abbrev pub opened : Option (List ℕ) → Declarations → Declarations
opened None env = record env { structs = env.structs ++ fieldless [] ∷ [] }
opened (Some name) env = struct_tagged true name env

abbrev pub tagged : Option (List ℕ) → TagHere → Declarations → Declarations
tagged None tag env = env
tagged (Some name) tag env = record env { tags = (name, tag) ∷ env.tags }

-- what has linkage is that from here on, and keeps the token by which it was declared first
abbrev pub token_kept : Option Linked → List ℕ → ℕ → List (List ℕ × ℕ) → List (List ℕ × ℕ)
token_kept None name token tokens = (name, token) ∷ tokens
token_kept (Some before) name token tokens = tokens

abbrev pub now_linked : List ℕ → ℕ → Linked → Declarations → Declarations
now_linked name token linked env = record env { linked = (name, linked) ∷ env.linked; tokens = token_kept (named_in env.linked name) name token env.tokens }

abbrev pub start : Declarations
start = record {
  in_loop = false;
  result = None;
  tags = (codes "s", StructHere 0 true) ∷ (codes "t", StructHere 1 false) ∷ (codes "v", StructHere 2 true) ∷ [];
  constants = [];
  scopes = [];
  outer_tags = [];
  linked = linked_names;
  tokens = [];
  definitions = (codes "n", Defined) ∷ (codes "row", Tentative) ∷ (codes "f", Defined) ∷ [];
  structs = record {
    name = codes "s";
    complete = true;
    fields = record { name = codes "a"; ctype = int_type } ∷ record { name = codes "b"; ctype = PointerType char_type } ∷ [];
  } ∷ fieldless (codes "t") ∷ record {
    name = codes "v";
    complete = true;
    fields = record { name = codes "a"; ctype = int_type } ∷ record { name = codes "e"; ctype = ArrayType char_type 3 } ∷ [];
  } ∷ [];
}

abbrev pub sample : Language
sample = record {
  abi = Lp64;
  Environment = Declarations;
  entity = λ name env. entity_in env name;
  tag = λ name env. option_map tag_of (named_through (env.tags ∷ env.outer_tags) name);
  structs = λ env. env.structs;
  struct_declared = struct_tagged false;
  enum_declared = λ name env. tagged (Some name) (EnumHere false) env;
  entered = scope_entered;
  left = scope_left;
  tag_here = λ name env. named_in env.tags name;
  struct_opened = opened;
  struct_listed = λ name number env. tagged (Some name) (StructHere number true) env;
  struct_completed = λ number members env. record env { structs = completed env.structs number members };
  enum_listed = λ name env. tagged name (EnumHere true) env;
  is_declared_here = λ name env. is_some (said_here env name);
  constant_declared = λ name bits env. constant_bound env.scopes name (EnumeratorIs bits) env;
  in_loop = λ env. env.in_loop;
  loop_set = λ inside env. record env { in_loop = inside };
  result = λ env. env.result;
  name_here = λ name env. said_here env name;
  linked = λ name env. named_in env.linked name;
  visible_type = λ name env. visible_by env name (named_through env.scopes name);
  object_declared = λ name token fixed t env. bound name (OwnName (ObjectIs (own_object token fixed t))) env;
  typedef_declared = λ name t env. bound name (TypedefName t) env;
  linked_declared = λ name token items linked env. bound name (LinkedName items) (now_linked name token linked env);
  strict = λ env. false;
}

-- where the token of that number stands
abbrev pub token : ℕ → Place
token number = record { file = 0; line = 1; column = 1; at = number }

-- an expression: its number, the token that has its place, and what it is; and a type name: words, stars, sizes
abbrev pub node : ℕ → ℕ → ExprForm → Expr
node number at form = record { number = number; place = token at; form = form }

abbrev pub type_name : TypeSpec → ℕ → List (Option Expr) → TypeName
type_name spec stars sizes = roll-TypeName (record { spec = spec; stars = stars; sizes = sizes })

abbrev pub name : List ℕ → ℕ → ℕ → Expr
name bytes number at = node number at (Name bytes)

abbrev pub constant : List ℕ → ℕ → ℕ → Expr
constant spelling number at = node number at (Constant spelling)

abbrev pub identifier : List ℕ → ℕ → Identifier
identifier bytes at = record { place = token at; name = bytes }

abbrev pub statement : StmtForm → Stmt
statement form = record { place = token 0; after = token 0; form = form }

-- a declaration of members; a member with its sizes, and one with a width; a constant of an enum
abbrev pub declaration : TypeSpec → List FieldName → FieldDecl
declaration spec names = roll-FieldDecl (record { spec = spec; names = names })

abbrev pub field : List ℕ → ℕ → ℕ → List (Option Expr) → FieldName
field bytes at stars sizes = roll-FieldName (record { place = token at; name = Some bytes; stars = stars; sizes = sizes; bits = None })

abbrev pub field_of_bits : List ℕ → ℕ → Expr → FieldName
field_of_bits bytes at width = roll-FieldName (record { place = token at; name = Some bytes; stars = 0; sizes = []; bits = Some width })

abbrev pub enumerator : List ℕ → ℕ → Option Expr → Enumerator
enumerator bytes at value = roll-Enumerator (record { place = token at; name = bytes; value = value })

-- what is said of an expression there: its type; its type and value, or that it has none; that it is a null pointer constant; what is
-- broken in it first, and where
abbrev pub HasType : Expr → CType → Type 0
HasType expr t =
    (known : Known) × (handed : List Handed) × (after : Declarations)
    × Finds sample start (ExpressionIs expr (Passes known handed)) after
    × (known.ctype ≡ t)

abbrev pub HasValue : Expr → CType → ℕ → Type 0
HasValue expr t bits =
    (known : Known) × (handed : List Handed) × (after : Declarations)
    × Finds sample start (ExpressionIs expr (Passes known handed)) after
    × (known.ctype ≡ t)
    × (known.value ≡ Some bits)

abbrev pub HasNoValue : Expr → CType → Type 0
HasNoValue expr t =
    (known : Known) × (handed : List Handed) × (after : Declarations)
    × Finds sample start (ExpressionIs expr (Passes known handed)) after
    × (known.ctype ≡ t)
    × (known.value ≡ None)

abbrev pub IsNull : Expr → CType → Type 0
IsNull expr t =
    (known : Known) × (handed : List Handed) × (after : Declarations)
    × Finds sample start (ExpressionIs expr (Passes known handed)) after
    × (known.ctype ≡ t)
    × (known.null ≡ true)

abbrev pub IsRefused : Expr → ℕ → Broken → Type 0
IsRefused expr at broken = (after : Declarations) × Finds sample start (ExpressionIs expr (Refused (fault (token at) broken))) after

-- a statement whose first token is that one
abbrev pub statement_at : ℕ → StmtForm → Stmt
statement_at at form = record { place = token at; after = token at; form = form }

-- in the body of a function whose result is an int, and of one that has none
abbrev pub in_function : Declarations
in_function = record (scope_entered start) { result = Some int_type }

abbrev pub in_procedure : Declarations
in_procedure = record (scope_entered start) { result = Some VoidType }

-- what is said of a statement there: it passes, or what is broken in it first, and where; and that it passes, with these stores, and that
-- object as the last thing that is handed on
abbrev pub PassesIn : Declarations → Stmt → Type 0
PassesIn env stmt = (handed : List Handed) × (after : Declarations) × Finds sample env (StatementIs stmt (Passes tt handed)) after

abbrev pub IsRefusedIn : Declarations → Stmt → ℕ → Broken → Type 0
IsRefusedIn env stmt at broken = (after : Declarations) × Finds sample env (StatementIs stmt (Refused (fault (token at) broken))) after

abbrev pub stores_in : List Handed → List Store
stores_in [] = []
stores_in (StoreHanded store ∷ handed) = store ∷ stores_in handed
stores_in (ExpressionHanded row ∷ handed) = stores_in handed
stores_in (ObjectHanded row ∷ handed) = stores_in handed
stores_in (LinkHanded row ∷ handed) = stores_in handed
stores_in (FunctionHanded row ∷ handed) = stores_in handed
stores_in (ParameterHanded row ∷ handed) = stores_in handed

abbrev pub MakesIn : Declarations → Stmt → List Store → ObjectRow → Type 0
MakesIn env stmt stores object =
    (front : List Handed) × (handed : List Handed) × (after : Declarations)
    × Finds sample env (StatementIs stmt (Passes tt handed)) after
    × (handed ≡ front ++ ObjectHanded object ∷ [])
    × (stores_in handed ≡ stores)

-- a declaration; a name in it with its stars, its sizes and its initialiser; and the name of a function with its parameters
abbrev pub declare : Storage → TypeSpec → List Declared → Decl
declare storage spec names = roll-Decl (record { storage = storage; spec = spec; names = names })

abbrev pub declarator : List ℕ → ℕ → ℕ → List (Option Expr) → Option Init → Declared
declarator bytes at stars sizes init = roll-Declared (record { place = token at; name = bytes; stars = stars; sizes = sizes; params = None; init = init })

abbrev pub function_declarator : List ℕ → ℕ → List Param → Declared
function_declarator bytes at params = roll-Declared (record { place = token at; name = bytes; stars = 0; sizes = []; params = Some params; init = None })

abbrev pub parameter_of : TypeSpec → ℕ → Option Identifier → List (Option Expr) → Param
parameter_of spec stars name sizes = roll-Param (record { spec = spec; stars = stars; name = name; sizes = sizes })

-- an initialiser that is a value, one in braces, and a part of it, with a designator or without
abbrev pub value_of : Expr → Init
value_of expr = ValueInit expr (token 0)

abbrev pub part : Init → InitPart
part init = roll-InitPart (record { member = None; init = init })

abbrev pub part_named : List ℕ → ℕ → Init → InitPart
part_named bytes at init = roll-InitPart (record { member = Some (identifier bytes at); init = init })
