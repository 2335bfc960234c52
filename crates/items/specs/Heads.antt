-- What is found at the head of a function outside of functions (C11 6.9.1), by numbers, what declares it, and what is handed on of it.
use Rattle.std.specs.Prelude.{◌≡◌, ◌<◌, ◌++◌, ◌||◌, ℕ, Bool, true, false, List, [], ◌∷◌, map, length, Option, None, Some, option_map, option_and_then}
use Rattle.cbase.specs.declared.abi.Abi.{Abi}
use Rattle.cbase.specs.declared.ctype.CType.TheViews.{out-CType}
use Rattle.cbase.specs.declared.tree.decl.Declared.{Declared as DeclaredName}
use Rattle.cbase.specs.declared.tree.decl.Storage.{Storage}
use Rattle.cbase.specs.declared.tree.expr.ExprForm.TheViews.{out-Declared}
use Rattle.cbase.specs.declared.tree.identifier.Identifier.{Identifier}
use Rattle.typing.specs.declared.environment.entity.DeclaredType.TheVariants.{Whole}
use Rattle.typing.specs.declared.environment.entity.Entity.TheVariants.{Object}
use Rattle.typing.specs.declared.environment.entity.Lifetime.TheVariants.{MainParameter}
use Rattle.typing.specs.environment.Environment.{definition_set, is_defined, signature_added}
use Rattle.typing.specs.environment.Linkage.{linked_declared_around, own_declared}
use Rattle.typing.specs.environment.Names.{value_in}
use Rattle.typing.specs.environment.Scopes.{found_here, left}
use Rattle.typing.specs.ctypes.Kinds.{kind_of}
use Rattle.typing.specs.declared.fault.Fault.{Fault}
use Rattle.typing.specs.Declarations.{IsAgain, LinkedGiven, faults_of_all, found_of_all, function_given, function_name_faults, is_array, is_typedef}
use Rattle.typing.specs.Entities.{FunctionLinked}
use Rattle.typing.specs.Faults.{least}
use Rattle.typing.specs.FileNames.{is_twice, with_definition}
use Rattle.typing.specs.Heads.{body_faults, definition_of_head, has_struct, head_declared, head_faults, is_main, main_faults, names_in, result_of}
use Rattle.expressions.specs.declared.found.Found.{Found}
use Rattle.expressions.specs.declared.found.Found.TheVariants.{Passes as FoundToPass, Refused as FoundRefused}
use Rattle.expressions.specs.declared.handed_row.HandedRow.{HandedRow}
use Rattle.expressions.specs.declared.handed_row.HandedRow.TheVariants.{Function as FunctionRow, Parameter as ParameterRow}
use Rattle.expressions.specs.declared.named_type.NamedType.{NamedType as NamedByNumber}
use Rattle.expressions.specs.Context.{Context, Declared, declared, Agrees, Grows}
use Rattle.expressions.specs.FileScope.{definition_at, definition_in_text, file_scope}
use Rattle.expressions.specs.Language.{built_in_by_now, definition_by_now, language, linked_function}
use Rattle.expressions.specs.Numbers.{Numbering, linked_at, name_here_at, named_at}
use Rattle.expressions.specs.Settled.{IsFirstOf}
use Rattle.items.specs.declared.parameters.parameter.Parameter.{Parameter as ParameterByNumber}
use Rattle.items.specs.parameters.Parameters.{parameter_at}
use Rattle.items.specs.declared.heads.parts.Head.{Head}

-- a parameter of `main`, where it has a name, and parameters of it by their names and types, one behind the other
abbrev pub marked_one : Option Identifier → ℕ → Context → Context
marked_one None ctype before = before
marked_one (Some name) ctype before = record before { environment = own_declared name.name (Object (Whole ctype) name.place.at MainParameter true) before.environment }

abbrev pub marked : List (Option Identifier) → List ParameterByNumber → Context → Context
marked [] params before = before
marked (name ∷ names) [] before = before
marked (name ∷ names) (param ∷ params) before = marked names params (marked_one name param.ctype before)

abbrev pub marked_if : Bool → List (Option Identifier) → List ParameterByNumber → Context → Context
marked_if true names params before = marked names params before
marked_if false names params before = before

abbrev pub marked_if_main : DeclaredName → List ParameterByNumber → Context → Context
marked_if_main name params before = marked_if (is_main (out-Declared name).name) (names_in (out-Declared name)) params before

-- a function of those types, declared in the scope around the innermost one: its signature has the number behind all others, and it has a body and is
-- built in where it was before
abbrev pub function_around : List ℕ → ℕ → List ℕ → Context → Context
function_around name result params before = record before {
  environment = linked_declared_around name None
      (linked_function (length before.environment.signatures) (is_defined name before.environment) (built_in_by_now (value_in name before.environment.linked))
      (definition_by_now (value_in name before.environment.linked)))
      (signature_added (record { result = result; parameters = params }) before.environment);
}

-- the function of a head, whose parameters have types of those numbers
abbrev pub head_declared_in : Head → DeclaredName → List ParameterByNumber → List ℕ → Context → Context
head_declared_in head name params types before =
    let around = function_around (out-Declared name).name head.result types (marked_if_main name params before) in
    record around {
      environment = definition_set (out-Declared name).name
          (definition_in_text (with_definition (definition_at (definition_by_now (value_in (out-Declared name).name before.environment.linked))) (definition_of_head head.bodied)))
          around.environment;
    }

-- what is handed on of it
abbrev pub rows_of_parameters : List (Option Identifier) → List ParameterByNumber → List HandedRow
rows_of_parameters [] params = []
rows_of_parameters (name ∷ names) [] = []
rows_of_parameters (name ∷ names) (param ∷ params) = ParameterRow (option_map (λ declared. declared.place.at) name) param.ctype ∷ rows_of_parameters names params

abbrev pub rows_if_bodied : Bool → ℕ → DeclaredName → List ParameterByNumber → List HandedRow
rows_if_bodied false result name params = []
rows_if_bodied true result name params = FunctionRow (out-Declared name).place.at result ∷ rows_of_parameters (names_in (out-Declared name)) params

abbrev pub rows_of_head : Head → DeclaredName → List ParameterByNumber → List HandedRow
rows_of_head head name params = rows_if_bodied head.bodied head.result name params

-- what is broken at it, in the types of numbers
abbrev pub faults_of_head : Numbering → Context → Head → DeclaredName → List ParameterByNumber → Bool → List Fault
faults_of_head n context head name params other =
    let parts = out-Declared name in
    let told = map (parameter_at n) params in
    (function_name_faults parts.place (least head.found (found_of_all told)) (is_typedef head.storage)
    (other || is_twice (definition_at (definition_by_now (value_in parts.name context.environment.linked))) (definition_of_head head.bodied))
    (is_array (kind_of context.structs (n.ctype head.result)))
    ++ faults_of_all told)
    ++ (body_faults head.bodied parts.place (has_struct context.structs (n.ctype head.result) told) ++ main_faults (is_main parts.name) parts.place (out-CType (n.ctype head.result)))

pub record IsHeadJudged (n : Numbering) (context : Context) (head : Head) (name : DeclaredName) (params : List ParameterByNumber) (types : List ℕ) (first : Option Fault) : Type 0 where
  pub other : Bool
  pub is_other : IsAgain (option_map (name_here_at n) (found_here (out-Declared name).name (left context.environment.names)))
      (option_and_then (linked_at n) (value_in (out-Declared name).name context.environment.linked)) (LinkedGiven (FunctionLinked (n.ctype head.result) (map n.ctype types))) other
  pub broken : IsFirstOf (faults_of_head n context head name params other) first

-- what is asked at it, of an environment: nothing is broken, or the first of what is
pub record HeadAsked (abi : Abi) (bodied : Bool) (storage : Storage) (base : NamedByNumber) (name : DeclaredName) (params : List ParameterByNumber) (n : Numbering) (env : Declared) (first : Option Fault) : Type 0 where
  pub other : Bool
  pub is_other : let l = language abi n in
      IsAgain (l.name_here (out-Declared name).name (l.left env)) (l.linked (out-Declared name).name env) (LinkedGiven (function_given (out-Declared name) (named_at n base) (map (parameter_at n) params))) other
  pub broken : IsFirstOf (head_faults (language abi n) (file_scope abi n) bodied storage (named_at n base) (out-Declared name) (map (parameter_at n) params) other env) first

-- nothing is broken at it, and it is declared around its parameters; `told` is the number of its result's type
pub record HeadToPass (abi : Abi) (bodied : Bool) (storage : Storage) (base : NamedByNumber) (name : DeclaredName) (params : List ParameterByNumber) (old new : Context) (told : ℕ) : Type 0 where
  pub grows : Grows old new
  pub handed : new.handed ≡ old.handed ++ rows_if_bodied bodied told name params
  pub below : told < length new.types
  pub meant : (n : Numbering) → Agrees n new → n.ctype told ≡ result_of (named_at n base) (out-Declared name)
  pub asked : (n : Numbering) → Agrees n new → HeadAsked abi bodied storage base name params n (declared old) None
  pub declares : (n : Numbering) → Agrees n new
      → declared new ≡ head_declared (language abi n) (file_scope abi n) bodied (named_at n base) (out-Declared name) (names_in (out-Declared name)) (map (parameter_at n) params) (declared old)

-- or the first of what is broken
pub record HeadBreaks (abi : Abi) (bodied : Bool) (storage : Storage) (base : NamedByNumber) (name : DeclaredName) (params : List ParameterByNumber) (old new : Context) (first : Fault) : Type 0 where
  pub grows : Grows old new
  pub same : declared new ≡ declared old
  pub asked : (n : Numbering) → Agrees n new → HeadAsked abi bodied storage base name params n (declared old) (Some first)

abbrev pub IsHead : Abi → Bool → Storage → NamedByNumber → DeclaredName → List ParameterByNumber → Context → Context → Found ℕ → Type 0
IsHead abi bodied storage base name params old new (FoundToPass told) = HeadToPass abi bodied storage base name params old new told
IsHead abi bodied storage base name params old new (FoundRefused first) = HeadBreaks abi bodied storage base name params old new first
