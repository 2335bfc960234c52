-- What is found at the name of a function behind its parameters, and what declares it.
use Rattle.std.specs.Prelude.{◌≡◌, ℕ, Bool, List, [], map, length, None}
use Rattle.cbase.specs.declared.abi.Abi.{Abi}
use Rattle.cbase.specs.declared.tree.decl.Declared.{Declared as DeclaredName}
use Rattle.cbase.specs.declared.tree.decl.Storage.{Storage}
use Rattle.cbase.specs.declared.tree.expr.ExprForm.TheViews.{out-Declared}
use Rattle.typing.specs.environment.Environment.{signature_added, is_defined}
use Rattle.typing.specs.environment.Linkage.{linked_declared}
use Rattle.typing.specs.environment.Names.{value_in}
use Rattle.typing.specs.declared.fault.Fault.{Fault}
use Rattle.typing.specs.Declarations.{LinkedGiven, IsAgain, faults_of_function, function_given, name_declared}
use Rattle.typing.specs.Faults.{IsFirst}
use Rattle.expressions.specs.declared.found.Found.{Found}
use Rattle.expressions.specs.declared.found.Found.TheVariants.{Passes as FoundToPass, Refused as FoundRefused}
use Rattle.expressions.specs.declared.named_type.NamedType.{NamedType as NamedByNumber}
use Rattle.expressions.specs.Context.{Context, Declared, declared, Agrees, Grows}
use Rattle.expressions.specs.Language.{language, linked_function, built_in_by_now, definition_by_now}
use Rattle.expressions.specs.Numbers.{Numbering, named_at}
use Rattle.items.specs.declared.parameters.parameter.Parameter.{Parameter as ParameterByNumber}
use Rattle.items.specs.parameters.Parameters.{parameter_at}

-- a function of those types: its signature has the number behind all others, and it has a body and is built in where it was before
abbrev pub function_declared : List ℕ → ℕ → List ℕ → Context → Context
function_declared name result params before = record before {
  environment = linked_declared name None
      (linked_function (length before.environment.signatures) (is_defined name before.environment) (built_in_by_now (value_in name before.environment.linked))
      (definition_by_now (value_in name before.environment.linked)))
      (signature_added (record { result = result; parameters = params }) before.environment);
}

-- what is asked at the name, of an environment
pub record Asked (abi : Abi) (storage : Storage) (base : NamedByNumber) (name : DeclaredName) (params : List ParameterByNumber) (n : Numbering) (env : Declared) (faults : List Fault) : Type 0 where
  pub again : Bool
  pub is_again : let l = language abi n in
      IsAgain (l.name_here (out-Declared name).name env) (l.linked (out-Declared name).name env) (LinkedGiven (function_given (out-Declared name) (named_at n base) (map (parameter_at n) params))) again
  pub broken : faults_of_function env.structs storage (out-Declared name) (named_at n base) (map (parameter_at n) params) again ≡ faults

-- nothing is broken at it, and it is declared
pub record NamedToPass (abi : Abi) (storage : Storage) (base : NamedByNumber) (name : DeclaredName) (params : List ParameterByNumber) (old new : Context) : Type 0 where
  pub grows : Grows old new
  pub handed : new.handed ≡ old.handed
  pub asked : (n : Numbering) → Agrees n new → Asked abi storage base name params n (declared old) []
  pub declares : (n : Numbering) → Agrees n new
      → declared new ≡ name_declared (language abi n) (out-Declared name).name (out-Declared name).place.at (LinkedGiven (function_given (out-Declared name) (named_at n base) (map (parameter_at n) params))) (declared old)

-- or the first of what is broken
pub record NamedBroken (abi : Abi) (storage : Storage) (base : NamedByNumber) (name : DeclaredName) (params : List ParameterByNumber) (old new : Context) (first : Fault) : Type 0 where
  pub grows : Grows old new
  pub same : declared new ≡ declared old
  pub asked : (n : Numbering) → Agrees n new → (faults : List Fault) × (Asked abi storage base name params n (declared old) faults × IsFirst faults first)

abbrev pub IsNamed : Abi → Storage → NamedByNumber → DeclaredName → List ParameterByNumber → Context → Context → Found (Unit {0}) → Type 0
IsNamed abi storage base name params old new (FoundToPass told) = NamedToPass abi storage base name params old new
IsNamed abi storage base name params old new (FoundRefused first) = NamedBroken abi storage base name params old new first
