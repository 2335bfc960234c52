-- Objects that are declared outside of functions (C11 6.9.2): their definitions, their types, and what is found at their names. They have linkage (6.2.2p3 to
-- p5), and it is not asked whether that is internal.
use Rattle.std.specs.Prelude.{ℕ, ◌&&◌, ◌||◌, not, Bool, true, false, List, [], ◌∷◌, ◌++◌, is_some}
use Rattle.cbase.specs.declared.abi.Abi.{Abi}
use Rattle.cbase.specs.declared.ctype.CType.{CType}
use Rattle.cbase.specs.declared.place.Place.{Place}
use Rattle.cbase.specs.declared.structs.StructDef.{StructDef}
use Rattle.cbase.specs.declared.tree.decl.Storage.{Storage}
use Rattle.cbase.specs.declared.tree.decl.Storage.TheVariants.{Plain, Typedef, Extern, Static}
use Rattle.typing.specs.declared.ctypes.found.Broken.TheVariants.{Rule}
use Rattle.typing.specs.declared.fault.Fault.{Fault}
use Rattle.typing.specs.declared.size.Size.{Size}
use Rattle.typing.specs.Declarations.{ObjectGiven, LinkedGiven, given_type, is_complete, found_of_name, name_faults, seen_type, name_declared, object_row, told_faults}
use Rattle.typing.specs.Entities.{DeclaredType, ObjectLinked, Definition, NotDefined, Tentative, Defined}
use Rattle.typing.specs.Faults.{unless}
use Rattle.typing.specs.FileScope.{FileScope}
use Rattle.typing.specs.Forms.{DeclaratorParts}
use Rattle.typing.specs.Language.{Language}
use Rattle.typing.specs.NamedTypes.{NamedType, declared_type, is_large}
use Rattle.typing.specs.Outcomes.{Outcome, Handed, LinkHanded, Passes, Refused}

-- what a declaration of an object adds: one with an initialiser defines it, and one without does so tentatively, but for `extern` (6.9.2p1, p2)
abbrev pub definition_by : Storage → Bool → Definition
definition_by storage true = Defined
definition_by Plain false = Tentative
definition_by Static false = Tentative
definition_by Extern false = NotDefined
definition_by Typedef false = NotDefined

abbrev pub definition_in : Storage → DeclaratorParts → Definition
definition_in storage parts = definition_by storage (is_some parts.init)

abbrev pub with_definition : Definition → Definition → Definition
with_definition NotDefined now = now
with_definition Tentative NotDefined = Tentative
with_definition Tentative Tentative = Tentative
with_definition Tentative Defined = Defined
with_definition Defined now = Defined

-- what is defined twice is rule 2 (6.9p5)
abbrev pub is_defined : Definition → Bool
is_defined NotDefined = false
is_defined Tentative = false
is_defined Defined = true

abbrev pub is_twice : Definition → Definition → Bool
is_twice before now = is_defined before && is_defined now

-- whether a declaration is the first that defines it, tentatively or not
abbrev pub is_declared_only : Definition → Bool
is_declared_only NotDefined = true
is_declared_only Tentative = false
is_declared_only Defined = false

abbrev pub is_listed : Definition → Definition → Bool
is_listed before now = is_declared_only before && not (is_declared_only now)

-- the type that an object has by a declaration and by those before it that are visible (6.2.7p4)
abbrev pub object_type : (l : Language) → NamedType → DeclaratorParts → List Size → l.Environment → DeclaredType
object_type l base parts counts env = seen_type (l.visible_type parts.name env) (given_type base parts.stars counts)

-- whether it is complete: where the declaration defines it, it is so at once, once an initialiser stands; where it does not, it is not `void`
-- (6.7p7)
abbrev pub is_complete_by : List StructDef → Definition → DeclaredType → Bool
is_complete_by structs NotDefined t = is_complete structs false (LinkedGiven (ObjectLinked t))
is_complete_by structs Tentative t = is_complete structs false (ObjectGiven true t)
is_complete_by structs Defined t = is_complete structs true (ObjectGiven true t)

-- what is broken at the name of an object, which is declared with another type, or not, where an environment stands
abbrev pub object_faults : (l : Language) (file : FileScope l) → Storage → NamedType → DeclaratorParts → List Size → Bool → l.Environment → List Fault
object_faults l file storage base parts counts other env =
    name_faults parts.place (found_of_name base counts (is_large l.abi (l.structs env) (declared_type base parts.stars counts)))
    (other || is_twice (file.definition parts.name env) (definition_in storage parts))
    (is_complete_by (l.structs env) (definition_in storage parts) (object_type l base parts counts env))

abbrev pub object_declared : (l : Language) (file : FileScope l) → Storage → NamedType → DeclaratorParts → List Size → l.Environment → l.Environment
object_declared l file storage base parts counts env =
    file.definition_set parts.name (with_definition (file.definition parts.name env) (definition_in storage parts))
    (name_declared l parts.name parts.place.at (LinkedGiven (ObjectLinked (object_type l base parts counts env))) env)

-- what is handed on of the declaration, and, by the first that defines it, of the object, which lives as long as the program runs (6.2.4p3)
abbrev pub link_row : (l : Language) (file : FileScope l) → DeclaratorParts → l.Environment → List Handed
link_row l file parts env = LinkHanded (record { token = parts.place.at; first = file.first_token parts.name env }) ∷ []

abbrev pub is_listed_by : (l : Language) (file : FileScope l) → Storage → DeclaratorParts → l.Environment → Bool
is_listed_by l file storage parts env = is_listed (file.definition parts.name env) (definition_in storage parts)

abbrev pub static_row : Bool → Place → DeclaredType → Bool → List Handed
static_row true place t zeroed = object_row place (ObjectGiven true t) zeroed
static_row false place t zeroed = []

abbrev pub initialised_in_file : Bool → Place → DeclaredType → Bool → Outcome (Unit {0}) → Outcome (Unit {0})
initialised_in_file listed place t zeroed (Passes told handed) = Passes tt (handed ++ static_row listed place t zeroed)
initialised_in_file listed place t zeroed (Refused first) = Refused first

-- an array whose size is told by its initialiser, in which it may have been given another one
abbrev pub told_faults_in_file : Abi → List StructDef → Place → CType → ℕ → Bool → List Fault
told_faults_in_file abi structs place item count other = told_faults abi structs place item count ++ unless (not other) place (Rule 2)
