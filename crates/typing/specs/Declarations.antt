-- Declarations in blocks (C11 6.7): what they give their names, and what is found at these.
use Rattle.std.specs.Prelude.{◌≡◌, ℕ, ◌&&◌, not, Bool, true, false, List, [], ◌∷◌, ◌++◌, map, Option, None, Some, is_some, nat_eq}
use Rattle.cbase.specs.declared.abi.Abi.{Abi}
use Rattle.cbase.specs.declared.ctype.CType.{CType}
use Rattle.cbase.specs.declared.ctype.CType.TheVariants.{Array as ArrayType}
use Rattle.cbase.specs.declared.ctype.CType.TheOpen.{CType-F, Void as VoidOpen, Bool as BoolOpen, Int as IntOpen, Pointer as PointerOpen, Struct as StructOpen, Array as ArrayOpen}
use Rattle.cbase.specs.declared.ctype.CType.TheViews.{out-CType}
use Rattle.cbase.specs.declared.place.Place.{Place}
use Rattle.cbase.specs.declared.structs.StructDef.{StructDef}
use Rattle.cbase.specs.declared.tree.decl.Declared.{Declared}
use Rattle.cbase.specs.declared.tree.decl.Storage.{Storage}
use Rattle.cbase.specs.declared.tree.decl.Storage.TheVariants.{Plain, Typedef, Extern, Static}
use Rattle.cbase.specs.declared.tree.expr.ExprForm.TheOpen.{Struct as StructWords, Value, Braces}
use Rattle.cbase.specs.declared.tree.identifier.Identifier.{Identifier}
use Rattle.typing.specs.declared.ctypes.found.Broken.{Broken}
use Rattle.typing.specs.declared.ctypes.found.Broken.TheVariants.{Construct, Rule}
use Rattle.typing.specs.ctypes.Kinds.{Kind, Integer, Pointer, Array, Struct, Void, kind_of, has_size}
use Rattle.typing.specs.declared.fault.Fault.{Fault}
use Rattle.typing.specs.declared.size.Size.{Size}
use Rattle.typing.specs.declared.size.Size.TheVariants.{Counted, NotConstant, LeftOut}
use Rattle.typing.specs.Braces.{Opening, Opens, IsTwice}
use Rattle.typing.specs.Entities.{DeclaredType, WholeType, ItemsOf, Linked, ObjectLinked, FunctionLinked, NameHere, OwnHere, TypedefHere, LinkedHere, TagHere, StructHere, EnumHere}
use Rattle.typing.specs.Faults.{fault, unless, all_at, least}
use Rattle.typing.specs.Forms.{Words, DeclaratorParts, ParameterParts, Initialiser}
use Rattle.typing.specs.Known.{value_type}
use Rattle.typing.specs.Language.{Language}
use Rattle.typing.specs.NamedTypes.{NamedType, with_stars, with_sizes, declared_type, found_of_sizes, is_large}
use Rattle.typing.specs.Outcomes.{Outcome, Handed, ObjectHanded, Passes, Refused}
use Rattle.typing.specs.Statements.{is_void}

-- `struct s;`, which declares its tag in the innermost scope, also where an outer one has it (6.7.2.3p7)
abbrev pub tag_alone : Storage → Words → List Declared → Option Identifier
tag_alone Plain (StructWords name None) [] = name
tag_alone storage words names = None

abbrev pub alone_by : (l : Language) → Identifier → l.Environment → Option TagHere → Opening l.Environment
alone_by l name env None = Opens (l.struct_declared name.name env)
alone_by l name env (Some (StructHere number listed)) = Opens env
alone_by l name env (Some (EnumHere listed)) = IsTwice (fault name.place (Rule 2))

abbrev pub alone : (l : Language) → Identifier → l.Environment → Opening l.Environment
alone l name env = alone_by l name env (l.tag_here name.name env)

-- whether the sizes of what is declared are integer constant expressions: those of static objects and of what has linkage (6.7.6.2p2)
abbrev pub is_fixed_size : Storage → Bool
is_fixed_size Plain = false
is_fixed_size Typedef = false
is_fixed_size Extern = true
is_fixed_size Static = true

-- the type that a name has by words, stars and sizes, of which the outermost may be left out
abbrev pub given_type : NamedType → ℕ → List Size → DeclaredType
given_type base stars [] = WholeType (with_stars stars base.ctype)
given_type base stars (LeftOut ∷ sizes) = ItemsOf (with_sizes sizes (with_stars stars base.ctype))
given_type base stars (Counted count ∷ sizes) = WholeType (declared_type base stars (Counted count ∷ sizes))
given_type base stars (NotConstant ∷ sizes) = WholeType (declared_type base stars (NotConstant ∷ sizes))

-- what is found of it: of the words, of the sizes, and whether it is large
abbrev pub found_in_sizes : List Size → Option Broken
found_in_sizes [] = None
found_in_sizes (LeftOut ∷ sizes) = found_of_sizes sizes
found_in_sizes (Counted count ∷ sizes) = found_of_sizes (Counted count ∷ sizes)
found_in_sizes (NotConstant ∷ sizes) = found_of_sizes (NotConstant ∷ sizes)

abbrev pub if_large : Bool → Option Broken
if_large true = Some (Construct 19)
if_large false = None

abbrev pub found_of_name : NamedType → List Size → Bool → Option Broken
found_of_name base sizes large = least base.found (least (found_in_sizes sizes) (if_large large))

-- what a declaration gives its name: an object of its own, which lives as long as the program runs or not (6.2.4p3, p5), what has linkage
-- (6.2.2), or a typedef (6.7.8)
pub data Given : Type 0 where
  ObjectGiven : Bool → DeclaredType → Given
  LinkedGiven : Linked → Given
  TypeGiven : DeclaredType → Given

abbrev pub given : Storage → DeclaredType → Given
given Plain t = ObjectGiven false t
given Typedef t = TypeGiven t
given Extern t = LinkedGiven (ObjectLinked t)
given Static t = ObjectGiven true t

-- whether an object has a complete type, once its initialiser stands (6.7p7, 6.7.9p22). What has linkage may have an incomplete one, but not `void`
abbrev pub is_complete : List StructDef → Bool → Given → Bool
is_complete structs initialised (ObjectGiven fixed (WholeType t)) = has_size structs t
is_complete structs initialised (ObjectGiven fixed (ItemsOf item)) = initialised && has_size structs item
is_complete structs initialised (LinkedGiven (ObjectLinked (WholeType t))) = not (is_void (kind_of structs t))
is_complete structs initialised (LinkedGiven (ObjectLinked (ItemsOf item))) = true
is_complete structs initialised (LinkedGiven (FunctionLinked result params)) = true
is_complete structs initialised (TypeGiven t) = true

-- whether two types, or whatever stands for them, are two
abbrev pub AreTwo : {A : Type 0} → A → A → Bool → Type 0
AreTwo first second true = first ≡ second → ⊥
AreTwo first second false = first ≡ second

-- the type of the items of an array
abbrev pub items_in : CType-F CType → Option CType
items_in VoidOpen = None
items_in BoolOpen = None
items_in (IntOpen bytes signed) = None
items_in (PointerOpen item) = None
items_in (StructOpen number) = None
items_in (ArrayOpen item count) = Some item

-- two types of one object are two, where an array whose size is not known goes with every other one of its items (6.2.7p3, 6.7.6.2p6)
abbrev pub AreTwoTypes : DeclaredType → DeclaredType → Bool → Type 0
AreTwoTypes (WholeType first) (WholeType second) two = AreTwo first second two
AreTwoTypes (ItemsOf first) (ItemsOf second) two = AreTwo first second two
AreTwoTypes (WholeType first) (ItemsOf item) two = AreTwo (items_in (out-CType first)) (Some item) two
AreTwoTypes (ItemsOf item) (WholeType second) two = AreTwo (items_in (out-CType second)) (Some item) two

-- whether what has linkage under a name is another thing than what is declared (6.2.7p2)
abbrev pub IsOther : Option Linked → Linked → Bool → Type 0
IsOther None linked other = other ≡ false
IsOther (Some (ObjectLinked first)) (ObjectLinked second) other = AreTwoTypes first second other
IsOther (Some (FunctionLinked result params)) (FunctionLinked other_result other_params) other = AreTwo {A = CType × List CType} (result, params) (other_result, other_params) other
IsOther (Some (ObjectLinked first)) (FunctionLinked result params) other = other ≡ true
IsOther (Some (FunctionLinked result params)) (ObjectLinked second) other = other ≡ true

-- whether a name is declared twice, by what its scope says of it and by what has linkage under it: a name without linkage is declared once in a
-- scope, but for a typedef of the same type (6.7p3); what has linkage is one thing wherever it is declared (6.7p4), and no name of its scope has
-- none
abbrev pub IsAgain : Option NameHere → Option Linked → Given → Bool → Type 0
IsAgain here linked (ObjectGiven fixed t) again = again ≡ is_some here
IsAgain None linked (TypeGiven t) again = again ≡ false
IsAgain (Some OwnHere) linked (TypeGiven t) again = again ≡ true
IsAgain (Some LinkedHere) linked (TypeGiven t) again = again ≡ true
IsAgain (Some (TypedefHere before)) linked (TypeGiven t) again = AreTwo before t again
IsAgain (Some OwnHere) linked (LinkedGiven now) again = again ≡ true
IsAgain (Some (TypedefHere before)) linked (LinkedGiven now) again = again ≡ true
IsAgain (Some LinkedHere) linked (LinkedGiven now) again = IsOther linked now again
IsAgain None linked (LinkedGiven now) again = IsOther linked now again

-- what is broken at a name: what is found of its type; one that is declared twice is rule 2, an object of an incomplete type rule 3
abbrev pub name_faults : Place → Option Broken → Bool → Bool → List Fault
name_faults place found again complete = all_at place found ++ (unless (not again) place (Rule 2) ++ unless complete place (Rule 3))

abbrev pub faults_of_name : Abi → List StructDef → DeclaratorParts → NamedType → List Size → Given → Bool → List Fault
faults_of_name abi structs parts base counts gives again =
    name_faults parts.place (found_of_name base counts (is_large abi structs (declared_type base parts.stars counts))) again (is_complete structs (is_some parts.init) gives)

-- the type that declarations give what has linkage, so far, in whatever scopes they stand (6.2.7p3)
abbrev pub composite_type : DeclaredType → DeclaredType → DeclaredType
composite_type (WholeType first) second = WholeType first
composite_type (ItemsOf item) second = second

abbrev pub composite : Option Linked → Linked → Linked
composite (Some (ObjectLinked first)) (ObjectLinked second) = ObjectLinked (composite_type first second)
composite before now = now

-- the type that an object has where it is declared, by this declaration and those that are visible there (6.2.7p4). What a block says of it is not visible
-- behind that
abbrev pub seen_type : Option CType → DeclaredType → DeclaredType
seen_type None given = given
seen_type (Some t) given = WholeType t

-- the items of an array whose size is not known there
abbrev pub unsized_items : DeclaredType → Option CType
unsized_items (WholeType t) = None
unsized_items (ItemsOf item) = Some item

abbrev pub hidden_items : Option CType → Linked → Option CType
hidden_items visible (ObjectLinked given) = unsized_items (seen_type visible given)
hidden_items visible (FunctionLinked result params) = None

-- the name is declared (6.2.1p7)
abbrev pub name_declared : (l : Language) → List ℕ → ℕ → Given → l.Environment → l.Environment
name_declared l name token (ObjectGiven fixed t) env = l.object_declared name token fixed t env
name_declared l name token (LinkedGiven linked) env =
    l.linked_declared name token (hidden_items (l.visible_type name env) linked) (composite (l.linked name env) linked) env
name_declared l name token (TypeGiven t) env = l.typedef_declared name t env

-- the name with its place
abbrev pub name_of : DeclaratorParts → Identifier
name_of parts = record { place = parts.place; name = parts.name }

-- what is handed on of an object of its own
abbrev pub object_row : Place → Given → Bool → List Handed
object_row place (ObjectGiven fixed (WholeType t)) zeroed = ObjectHanded (record { token = place.at; ctype = t; fixed = fixed; zeroed = zeroed }) ∷ []
object_row place (ObjectGiven fixed (ItemsOf item)) zeroed = []
object_row place (LinkedGiven linked) zeroed = []
object_row place (TypeGiven t) zeroed = []

abbrev pub in_braces : Initialiser → Bool
in_braces (Value value after) = false
in_braces (Braces parts) = true

-- behind its initialiser
abbrev pub initialised : Place → Given → Bool → Outcome (Unit {0}) → Outcome (Unit {0})
initialised place gives zeroed (Passes told handed) = Passes tt (handed ++ object_row place gives zeroed)
initialised place gives zeroed (Refused first) = Refused first

-- an array whose size is told by its initialiser (6.7.9p22): none is rule 9 at the name, and one of more than 65,536 bytes construct 19
abbrev pub told_type : CType → ℕ → DeclaredType
told_type item count = WholeType (ArrayType item count)

abbrev pub told_faults : Abi → List StructDef → Place → CType → ℕ → List Fault
told_faults abi structs place item count =
    unless (not (is_large abi structs (ArrayType item count))) place (Construct 19) ++ unless (not (nat_eq count 0)) place (Rule 9)

-- a parameter (6.7.6.3): its type, where an array is a pointer to its items (p7); what is found of it at the name of the function; and what is
-- broken at its own name
pub record Parameter : Type 0 where
  pub ctype : CType
  pub found : Option Broken
  pub faults : List Fault

-- the type that is asked whether it is large: of an array that of its items
abbrev pub asked_type : NamedType → ℕ → List Size → CType
asked_type base stars [] = with_stars stars base.ctype
asked_type base stars (size ∷ sizes) = with_sizes sizes (with_stars stars base.ctype)

abbrev pub parameter_type : List StructDef → NamedType → ℕ → List Size → CType
parameter_type structs base stars sizes =
    value_type (kind_of structs (declared_type base stars sizes)) (declared_type base stars sizes)

-- one of type `void` is rule 3, at its name or else at that of the function (6.7.6.3p4, p10), and one whose name the list has already rule 2 (6.7p3)
abbrev pub if_incomplete : Bool → Option Broken
if_incomplete true = Some (Rule 3)
if_incomplete false = None

abbrev pub parameter_found : Option Identifier → Option Broken → Bool → Option Broken
parameter_found None found incomplete = least found (if_incomplete incomplete)
parameter_found (Some name) found incomplete = found

abbrev pub parameter_faults : Option Identifier → Bool → Bool → List Fault
parameter_faults None incomplete again = []
parameter_faults (Some name) incomplete again = unless (not again) name.place (Rule 2) ++ unless (not incomplete) name.place (Rule 3)

abbrev pub is_named_here : (l : Language) → Option Identifier → l.Environment → Bool
is_named_here l None env = false
is_named_here l (Some name) env = is_some (l.name_here name.name env)

abbrev pub parameter : Abi → List StructDef → NamedType → ParameterParts → List Size → Bool → Parameter
parameter abi structs base parts counts again = record {
  ctype = parameter_type structs base parts.stars counts;
  found = parameter_found parts.name (found_of_name base counts (is_large abi structs (asked_type base parts.stars counts)))
      (is_void (kind_of structs (declared_type base parts.stars counts)));
  faults = parameter_faults parts.name (is_void (kind_of structs (declared_type base parts.stars counts))) again;
}

-- one in front of those behind it
abbrev pub with_parameter : Parameter → List Handed → Outcome (List Parameter) → Outcome (List Parameter)
with_parameter told handed (Passes others further) = Passes (told ∷ others) (handed ++ further)
with_parameter told handed (Refused first) = Refused first

-- it is in scope in the parameters behind it
abbrev pub parameter_declared : (l : Language) → Option Identifier → CType → l.Environment → l.Environment
parameter_declared l None t env = env
parameter_declared l (Some name) t env = l.object_declared name.name name.place.at false (WholeType t) env

-- a function: what is found of its result and of its parameters is named at its name, what is broken at names of parameters behind that. A typedef
-- of a function is construct 20 at its name; a result that is an array rule 4 (6.7.6.3p1)
abbrev pub found_of_all : List Parameter → Option Broken
found_of_all [] = None
found_of_all (param ∷ params) = least param.found (found_of_all params)

abbrev pub faults_of_all : List Parameter → List Fault
faults_of_all [] = []
faults_of_all (param ∷ params) = param.faults ++ faults_of_all params

abbrev pub is_array : Kind → Bool
is_array (Array item target) = true
is_array (Integer t) = false
is_array (Pointer item target) = false
is_array (Struct number) = false
is_array Void = false

abbrev pub is_typedef : Storage → Bool
is_typedef Typedef = true
is_typedef Plain = false
is_typedef Extern = false
is_typedef Static = false

abbrev pub function_name_faults : Place → Option Broken → Bool → Bool → Bool → List Fault
function_name_faults place found typedef again array =
    all_at place found ++ (unless (not typedef) place (Construct 20) ++ (unless (not again) place (Rule 2) ++ unless (not array) place (Rule 4)))

abbrev pub faults_of_function : List StructDef → Storage → DeclaratorParts → NamedType → List Parameter → Bool → List Fault
faults_of_function structs storage parts base params again =
    function_name_faults parts.place (least base.found (found_of_all params)) (is_typedef storage) again (is_array (kind_of structs (with_stars parts.stars base.ctype)))
    ++ faults_of_all params

abbrev pub function_given : DeclaratorParts → NamedType → List Parameter → Linked
function_given parts base params = FunctionLinked (with_stars parts.stars base.ctype) (map (λ param. param.ctype) params)
