-- What is declared in front of the first item of a file: the functions that are built in, in its scope (C11 7.1.3, 6.2.1p4).
use Rattle.std.specs.Prelude.{◌≡◌, ◌<◌, ◌||◌, ◌++◌, ℕ, All, Bool, true, false, List, [], ◌∷◌, length, map, None}
use Rattle.std.specs.Str.{bytes_eq}
use Rattle.cbase.specs.declared.abi.Abi.{Abi}
use Rattle.cbase.specs.declared.ctype.CType.{CType}
use Rattle.cbase.specs.declared.ctype.CType.TheVariants.{Void as VoidType, Bool as BoolType, Int as IntType}
use Rattle.cbase.specs.IntegerSizes.{bytes_of_rank}
use Rattle.typing.specs.declared.environment.entity.Definition.TheVariants.{NotDefined}
use Rattle.typing.specs.declared.environment.environment.Environment.{Environment}
use Rattle.typing.specs.environment.BuiltIns.{FunctionType, any, built_ins, size_type}
use Rattle.typing.specs.environment.Environment.{is_defined, name_defined, nothing_declared, scope_entered, signature_added, strict_set}
use Rattle.typing.specs.environment.Linkage.{linked_declared}
use Rattle.typing.specs.environment.Names.{Entries}
use Rattle.expressions.specs.Context.{Context, Declared, Agrees, Grows, OnlyTypes}
use Rattle.expressions.specs.Language.{linked_function}
use Rattle.expressions.specs.Numbers.{Numbering}
use Rattle.expressions.specs.Operated.{Numbers}
use Rattle.items.specs.declared.built_ins.BuiltIn.{BuiltIn}
use Rattle.items.specs.declared.built_in_types.BuiltInType.{BuiltInType}
use Rattle.items.specs.declared.built_in_types.BuiltInType.TheVariants.{Void, Bool as Boolean, Any, Size, Integer}
use Rattle.items.specs.declared.built_in_types.Parameters.{Parameters}
use Rattle.items.specs.declared.built_in_types.Parameters.TheVariants.{Nothing, One, Two, Three}

-- names that the whole text defines
abbrev pub all_defined : List (List ℕ) → Environment → Environment
all_defined [] env = env
all_defined (name ∷ names) env = all_defined names (name_defined name env)

abbrev pub is_among : List ℕ → List (List ℕ) → Bool
is_among name [] = false
is_among name (one ∷ others) = bytes_eq one name || is_among name others

-- a function that is built in, whose signature has the number behind the others
abbrev pub built_in_declared : Numbering → List ℕ → FunctionType → Environment → Environment
built_in_declared n name t env =
    linked_declared name None (linked_function (length env.signatures) (is_defined name env) true NotDefined)
    (signature_added (record { result = n.number t.result; parameters = map n.number t.parameters }) env)

-- where the text gives it no body
abbrev pub declared_unless : Bool → Numbering → List ℕ → FunctionType → Environment → Environment
declared_unless true n name t env = env
declared_unless false n name t env = built_in_declared n name t env

-- one behind the other, but for those to which the text gives a body
abbrev pub built_ins_declared : Numbering → List (List ℕ) → Entries FunctionType → Environment → Environment
built_ins_declared n bodied [] env = env
built_ins_declared n bodied (function ∷ functions) env =
    built_ins_declared n bodied functions (declared_unless (is_among function.0 bodied) n function.0 function.1 env)

-- what is declared in the scope of a file before its first item
abbrev pub begun : Numbering → Abi → Bool → List (List ℕ) → List (List ℕ) → Declared
begun n abi strict bodied defined = record {
  environment = built_ins_declared n bodied (built_ins abi) (scope_entered (all_defined defined (strict_set strict nothing_declared)));
  structs = [];
}

-- nothing at all
abbrev pub at_first : Context
at_first = record { types = []; structs = []; environment = nothing_declared; handed = [] }

-- functions as code keeps them: the types of their results and parameters in a data layout
abbrev pub type_in : Abi → BuiltInType → CType
type_in abi Void = VoidType
type_in abi Boolean = BoolType
type_in abi Any = any
type_in abi Size = size_type abi
type_in abi (Integer rank signed) = IntType (bytes_of_rank abi rank) signed

abbrev pub types_in : Abi → Parameters → List CType
types_in abi Nothing = []
types_in abi (One first) = type_in abi first ∷ []
types_in abi (Two first second) = type_in abi first ∷ type_in abi second ∷ []
types_in abi (Three first second third) = type_in abi first ∷ type_in abi second ∷ type_in abi third ∷ []

abbrev pub type_of_function : Abi → BuiltIn → FunctionType
type_of_function abi function = record { result = type_in abi function.result_type; parameters = types_in abi function.parameters }

abbrev pub function_in : Abi → BuiltIn → List ℕ × FunctionType
function_in abi function = (function.name.now, type_of_function abi function)

-- the numbers of types, and one behind others
pub record AreNumbers (types : List CType) (old new : Context) (numbers : List ℕ) : Type 0 where
  pub only_types : OnlyTypes old new
  pub below : All (λ number. number < length new.types) numbers
  pub meant : (n : Numbering) → Agrees n new → map n.ctype numbers ≡ types

abbrev pub IsNumberBehind : CType → Context → Context → List ℕ → List ℕ → Type 0
IsNumberBehind t old new before after = (number : ℕ) × (after ≡ before ++ number ∷ []) × Numbers (λ n. t) old new number

-- a context that has more functions
pub record HasMore (bodied : List (List ℕ)) (functions : Entries FunctionType) (old new : Context) : Type 0 where
  pub grows : Grows old new
  pub structs : new.structs ≡ old.structs
  pub handed : new.handed ≡ old.handed
  pub declares : (n : Numbering) → Agrees n new → new.environment ≡ built_ins_declared n bodied functions old.environment

-- and one that has one more
pub record IsBuiltIn (name : List ℕ) (t : FunctionType) (old new : Context) : Type 0 where
  pub grows : Grows old new
  pub structs : new.structs ≡ old.structs
  pub handed : new.handed ≡ old.handed
  pub declares : (n : Numbering) → Agrees n new → new.environment ≡ built_in_declared n name t old.environment
