-- The heads of functions outside of functions (C11 6.9.1, 6.7.6.3): what is found at them, what they declare, and what is handed on of a definition.
use Rattle.std.specs.Prelude.{ℕ, ◌&&◌, ◌||◌, not, nat_eq, codes, Bool, true, false, List, [], ◌∷◌, ◌++◌, map, Option, None, Some, option_map}
use Rattle.std.specs.Str.{bytes_eq}
use Rattle.cbase.specs.declared.ctype.CType.{CType}
use Rattle.cbase.specs.declared.ctype.CType.TheOpen.{CType-F, Void as VoidOpen, Bool as BoolOpen, Int as IntOpen, Pointer as PointerOpen, Struct as StructOpen, Array as ArrayOpen}
use Rattle.cbase.specs.declared.ctype.CType.TheViews.{out-CType}
use Rattle.cbase.specs.declared.place.Place.{Place}
use Rattle.cbase.specs.declared.structs.StructDef.{StructDef}
use Rattle.cbase.specs.declared.tree.decl.Param.{Param}
use Rattle.cbase.specs.declared.tree.decl.Storage.{Storage}
use Rattle.cbase.specs.declared.tree.expr.ExprForm.TheViews.{out-Param}
use Rattle.cbase.specs.declared.tree.identifier.Identifier.{Identifier}
use Rattle.typing.specs.declared.ctypes.found.Broken.TheVariants.{Construct, Rule}
use Rattle.typing.specs.ctypes.Kinds.{kind_of}
use Rattle.typing.specs.declared.fault.Fault.{Fault}
use Rattle.typing.specs.Calls.{is_struct}
use Rattle.typing.specs.Declarations.{Parameter, composite, faults_of_function, function_given}
use Rattle.typing.specs.Entities.{Definition, NotDefined, Defined}
use Rattle.typing.specs.Faults.{unless}
use Rattle.typing.specs.FileNames.{with_definition, is_twice}
use Rattle.typing.specs.FileScope.{FileScope}
use Rattle.typing.specs.Forms.{DeclaratorParts}
use Rattle.typing.specs.Language.{Language}
use Rattle.typing.specs.NamedTypes.{NamedType, with_stars}
use Rattle.typing.specs.Outcomes.{Handed, FunctionHanded, ParameterHanded}

abbrev pub result_of : NamedType → DeclaratorParts → CType
result_of base parts = with_stars parts.stars base.ctype

-- `main` has an int as its result (5.1.2.2.1p1), or it is rule 12 at its name
abbrev pub is_main : List ℕ → Bool
is_main name = bytes_eq name (codes "main")

abbrev pub is_int : CType-F CType → Bool
is_int VoidOpen = false
is_int BoolOpen = false
is_int (IntOpen bytes signed) = nat_eq bytes 4 && signed
is_int (PointerOpen item) = false
is_int (StructOpen number) = false
is_int (ArrayOpen item count) = false

abbrev pub main_faults : Bool → Place → CType-F CType → List Fault
main_faults false place result = []
main_faults true place result = unless (is_int result) place (Rule 12)

-- a definition takes and gives no struct, or it is construct 13 at its name
abbrev pub takes_struct : List StructDef → List Parameter → Bool
takes_struct structs [] = false
takes_struct structs (param ∷ params) = is_struct (kind_of structs param.ctype) || takes_struct structs params

abbrev pub has_struct : List StructDef → CType → List Parameter → Bool
has_struct structs result params = is_struct (kind_of structs result) || takes_struct structs params

abbrev pub body_faults : Bool → Place → Bool → List Fault
body_faults false place struct = []
body_faults true place struct = unless (not struct) place (Construct 13)

-- it is the only one of its name (6.9p5), or rule 2
abbrev pub definition_of_head : Bool → Definition
definition_of_head true = Defined
definition_of_head false = NotDefined

-- all that is broken at a head, which is declared with another type, or not, where an environment stands
abbrev pub head_faults : (l : Language) (file : FileScope l) → Bool → Storage → NamedType → DeclaratorParts → List Parameter → Bool → l.Environment → List Fault
head_faults l file bodied storage base parts params other env =
    faults_of_function (l.structs env) storage parts base params (other || is_twice (file.definition parts.name env) (definition_of_head bodied))
    ++ (body_faults bodied parts.place (has_struct (l.structs env) (result_of base parts) params) ++ main_faults (is_main parts.name) parts.place (out-CType (result_of base parts)))

-- its parameters: none, where it has no list of them, which the grammar does not read
abbrev pub params_of : Option (List Param) → List Param
params_of None = []
params_of (Some params) = params

-- and their names
abbrev pub names_of : List Param → List (Option Identifier)
names_of params = map (λ param. (out-Param param).name) params

abbrev pub names_in : DeclaratorParts → List (Option Identifier)
names_in parts = names_of (params_of parts.params)

-- those of `main` are marked as such
abbrev pub marked_one : (l : Language) (file : FileScope l) → Option Identifier → CType → l.Environment → l.Environment
marked_one l file None t env = env
marked_one l file (Some name) t env = file.main_parameter name.name name.place.at t env

abbrev pub marked : (l : Language) (file : FileScope l) → List (Option Identifier) → List Parameter → l.Environment → l.Environment
marked l file [] told env = env
marked l file (name ∷ names) [] env = env
marked l file (name ∷ names) (told ∷ others) env = marked l file names others (marked_one l file name told.ctype env)

abbrev pub marked_if : (l : Language) (file : FileScope l) → Bool → List (Option Identifier) → List Parameter → l.Environment → l.Environment
marked_if l file true names told env = marked l file names told env
marked_if l file false names told env = env

-- the function is declared around its parameters
abbrev pub head_declared : (l : Language) (file : FileScope l) → Bool → NamedType → DeclaratorParts → List (Option Identifier) → List Parameter → l.Environment → l.Environment
head_declared l file bodied base parts names told env =
    file.definition_set parts.name (with_definition (file.definition parts.name env) (definition_of_head bodied))
    (file.declared_around parts.name parts.place.at (composite (l.linked parts.name env) (function_given parts base told))
    (marked_if l file (is_main parts.name) names told env))

-- what is handed on of a definition
abbrev pub parameter_rows : List (Option Identifier) → List Parameter → List Handed
parameter_rows [] told = []
parameter_rows (name ∷ names) [] = []
parameter_rows (name ∷ names) (told ∷ others) =
    ParameterHanded (record { token = option_map (λ declared. declared.place.at) name; ctype = told.ctype }) ∷ parameter_rows names others

abbrev pub head_rows : Bool → NamedType → DeclaratorParts → List (Option Identifier) → List Parameter → List Handed
head_rows false base parts names told = []
head_rows true base parts names told = FunctionHanded (record { token = parts.place.at; result = result_of base parts }) ∷ parameter_rows names told
