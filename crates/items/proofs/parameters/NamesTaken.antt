-- What is found at the name of a function behind its parameters, and what declares it.
use Rattle.std.proofs.Common.{◌≡◌, ◌<◌, ◌++◌, ℕ, Bool, List, [], ◌∷◌, map, All, length, get_or, refl, sym, ap, subst, ◌∙◌, arith, Option, None, Some}
use Rattle.std.proofs.lemmas.List.Elements.{All-map}
use Rattle.std.specs.Prelude.{is_some, option_map, option_and_then}
use Rattle.cbase.specs.declared.abi.Abi.{Abi}
use Rattle.cbase.specs.declared.ctype.CType.{CType}
use Rattle.cbase.specs.declared.tree.decl.Declared.{Declared as DeclaredName}
use Rattle.cbase.specs.declared.tree.decl.Storage.{Storage}
use Rattle.cbase.specs.declared.tree.expr.ExprForm.TheViews.{out-Declared}
use Rattle.typing.specs.declared.environment.environment.Environment.{Environment}
use Rattle.typing.specs.environment.Environment.{signature_added, is_defined}
use Rattle.typing.specs.environment.Linkage.{linked_declared}
use Rattle.typing.specs.environment.Names.{value_in}
use Rattle.typing.specs.environment.Scopes.{found_here}
use Rattle.typing.specs.declared.ctypes.found.Broken.{Broken}
use Rattle.typing.specs.ctypes.Kinds.{Kind, Integer, Pointer, Array, Struct, Void, kind_of}
use Rattle.typing.specs.declared.fault.Fault.{Fault}
use Rattle.typing.specs.Declarations.{Parameter, LinkedGiven, IsAgain, composite, faults_of_all, faults_of_function, found_of_all, function_given, function_name_faults, is_array, is_typedef}
use Rattle.typing.specs.Entities.{Linked, ObjectLinked, FunctionLinked}
use Rattle.typing.specs.Faults.{least}
use Rattle.typing.specs.NamedTypes.{with_stars}
use Rattle.typing.specs.Paths.{item_in}
use Rattle.expressions.specs.declared.named_type.NamedType.{NamedType as NamedByNumber}
use Rattle.expressions.specs.Context.{Context, Declared, declared, Agrees, Grows, OnlyTypes}
use Rattle.expressions.specs.Language.{linked_function, built_in_by_now, definition_by_now, name_linked_as}
use Rattle.expressions.specs.Numbers.{Numbering, name_here_at, linked_at, named_at}
use Rattle.expressions.specs.Operated.{Numbers}
use Rattle.expressions.specs.Settled.{IsFirstOf}
use Rattle.expressions.proofs.Growth.{agrees_before, below_only_types, grows_trans, keeps_behind, number_back, only_types_grows}
use Rattle.expressions.proofs.TypeWords.{declared_by_types}
use Rattle.items.specs.declared.parameters.parameter.Parameter.{Parameter as ParameterByNumber}
use Rattle.items.specs.parameters.Named.{function_declared, Asked, NamedToPass, NamedBroken}
use Rattle.items.specs.parameters.Parameters.{numbers_of, parameter_at}
use Rattle.items.proofs.parameters.ParametersTaken.{there_alike}
use Rattle.items.proofs.parameters.TypesAlike.{numbers_back}

-- the types of parameters
pub types_meant : (n : Numbering) (params : List ParameterByNumber) → map n.ctype (numbers_of params) ≡ map (λ (param : Parameter). param.ctype) (map (parameter_at n) params)
types_meant n [] = refl
types_meant n (param ∷ params) = ap (λ (types : List CType). n.ctype param.ctype ∷ types) (types_meant n params)

-- the type that all declarations of a function give is that of the last
pub composite_is : (before : Option Linked) (result : CType) (params : List CType) → composite before (FunctionLinked result params) ≡ FunctionLinked result params
composite_is None result params = refl
composite_is (Some (ObjectLinked t)) result params = refl
composite_is (Some (FunctionLinked of others)) result params = refl

pub array_is : (kind : Kind) → is_some (item_in kind) ≡ is_array kind
array_is (Integer t) = refl
array_is (Pointer item target) = refl
array_is (Array item target) = refl
array_is (Struct number) = refl
array_is Void = refl

-- a function that a context declares, in the numbers of its types
abbrev linked_in : List ℕ → ℕ → List ℕ → Declared → Declared
linked_in name result params before = record before {
  environment = linked_declared name None
      (linked_function (length before.environment.signatures) (is_defined name before.environment) (built_in_by_now (value_in name before.environment.linked))
      (definition_by_now (value_in name before.environment.linked)))
      (signature_added (record { result = result; parameters = params }) before.environment);
}

function_grows : (name : List ℕ) (result : ℕ) (params : List ℕ) (context : Context) → Grows context (function_declared name result params context)
function_grows name result params context = record {
  types = λ number t is. is;
  structs = λ number s is complete. is;
  longer = omega arith;
  signatures = keeps_behind context.environment.signatures (record { result = result; parameters = params });
}

module _ (abi : Abi) (storage : Storage) (base : NamedByNumber) (name : DeclaredName) (params : List ParameterByNumber) (old mid : Context) (number : ℕ) (types : List ℕ) (text : List ℕ) (again : Bool)
    (called : text ≡ (out-Declared name).name) (listed : types ≡ numbers_of params)
    (numbers : Numbers (λ n. with_stars (out-Declared name).stars (n.ctype base.ctype)) old mid number) where
  -- what the name is declared as
  abbrev Function : Numbering → Linked
  Function n = function_given (out-Declared name) (named_at n base) (map (parameter_at n) params)

  abbrev Faults : Numbering → List Fault
  Faults n = faults_of_function old.structs storage (out-Declared name) (named_at n base) (map (parameter_at n) params) again

  params_meant : (n : Numbering) → map n.ctype types ≡ map (λ (param : Parameter). param.ctype) (map (parameter_at n) params)
  params_meant n = ap (map n.ctype) listed ∙ types_meant n params

  function_is : (n : Numbering) → Agrees n mid → FunctionLinked (n.ctype number) (map n.ctype types) ≡ Function n
  function_is n agrees = λ i. FunctionLinked (numbers.meant n agrees i) (params_meant n i)

  -- what is asked of the name, of numbers that code calls otherwise
  abbrev pub Asks : List ℕ → Type 0
  Asks slice = (n : Numbering) → Agrees n mid
      → IsAgain (option_map (name_here_at n) (found_here text mid.environment.names)) (option_and_then (linked_at n) (value_in text mid.environment.linked)) (LinkedGiven (FunctionLinked (n.ctype number) (map n.ctype slice))) again

  asked_as : (slice : List ℕ) → slice ≡ types → Asks slice → (n : Numbering) → Agrees n mid → Asked abi storage base name params n (declared old) (Faults n)
  asked_as slice same asks n agrees =
      let of_types = subst Asks same asks n agrees in
      let by_name = subst (λ (called_so : List ℕ). IsAgain (option_map (name_here_at n) (found_here called_so mid.environment.names)) (option_and_then (linked_at n) (value_in called_so mid.environment.linked))
      (LinkedGiven (FunctionLinked (n.ctype number) (map n.ctype types))) again) called of_types in
      let before = subst (λ (env : Environment). IsAgain (option_map (name_here_at n) (found_here (out-Declared name).name env.names)) (option_and_then (linked_at n) (value_in (out-Declared name).name env.linked))
      (LinkedGiven (FunctionLinked (n.ctype number) (map n.ctype types))) again) numbers.only_types.environment by_name in
      record {
        again = again;
        is_again = subst (λ (now : Linked). IsAgain (option_map (name_here_at n) (found_here (out-Declared name).name old.environment.names)) (option_and_then (linked_at n) (value_in (out-Declared name).name old.environment.linked))
            (LinkedGiven now) again) (function_is n agrees) before;
        broken = refl;
      }

  -- the first of what is broken at the name and at those of the parameters
  pub firsts : (here there first : Option Fault) (found least_found : Option Broken) (array : Bool) (item : Option ℕ)
      → IsFirstOf (function_name_faults (out-Declared name).place found (is_typedef storage) again array) here
      → ((n : Numbering) → IsFirstOf (faults_of_all (map (parameter_at n) params)) there)
      → ((faults others : List Fault) → IsFirstOf faults here → IsFirstOf others there → IsFirstOf (faults ++ others) first)
      → found ≡ least base.found least_found → ((n : Numbering) → least_found ≡ found_of_all (map (parameter_at n) params))
      → array ≡ is_some item → ((n : Numbering) → Agrees n mid → option_map n.ctype item ≡ item_in (kind_of mid.structs (n.ctype number)))
      → (n : Numbering) → Agrees n mid → IsFirstOf (Faults n) first
  firsts here there first found least_found array item is_here is_there joins found_is least_is array_told item_meant n agrees =
      let place = (out-Declared name).place in
      let of_all : found ≡ least base.found (found_of_all (map (parameter_at n) params)) = found_is ∙ ap (least base.found) (least_is n) in
      let result : n.ctype number ≡ with_stars (out-Declared name).stars (n.ctype base.ctype) = numbers.meant n agrees in
      let returned : array ≡ is_array (kind_of old.structs (with_stars (out-Declared name).stars (n.ctype base.ctype))) =
      array_told ∙ (there_alike n.ctype item ∙ (ap is_some (item_meant n agrees) ∙ (array_is (kind_of mid.structs (n.ctype number)) ∙ (λ i. is_array (kind_of (numbers.only_types.structs i) (result i)))))) in
      let by_found = subst (λ (broken : Option Broken). IsFirstOf (function_name_faults place broken (is_typedef storage) again array) here) of_all is_here in
      let by_result = subst (λ (returns : Bool). IsFirstOf (function_name_faults place (least base.found (found_of_all (map (parameter_at n) params))) (is_typedef storage) again returns) here) returned by_found in
      joins _ _ by_result (is_there n)

  -- what is broken is refused
  pub named_broken : (slice : List ℕ) (result : Option Fault) (first : Fault) → slice ≡ types → Asks slice → result ≡ Some first → ((n : Numbering) → Agrees n mid → IsFirstOf (Faults n) result)
      → NamedBroken abi storage base name params old mid first
  named_broken slice result first same asks is broken = record {
    grows = only_types_grows old mid numbers.only_types;
    same = sym (declared_by_types old mid numbers.only_types);
    asked = λ n agrees. (Faults n, (asked_as slice same asks n agrees, subst (IsFirstOf (Faults n)) is (broken n agrees)));
  }

  -- and where nothing is, the function is declared
  pub named_passes : (slice : List ℕ) (spelled : List ℕ) (result : Option Fault) (new : Context) → slice ≡ types → Asks slice → result ≡ None → ((n : Numbering) → Agrees n mid → IsFirstOf (Faults n) result)
      → All (λ (one : ℕ). one < length mid.types) types → spelled ≡ (out-Declared name).name → new ≡ function_declared spelled number types mid
      → NamedToPass abi storage base name params old new
  named_passes slice spelled result new same asks is broken below spelling declares =
      let further : Grows mid new = subst (Grows mid) (sym declares) (function_grows spelled number types mid) in
      record {
        grows = grows_trans old mid new (only_types_grows old mid numbers.only_types) further;
        handed = ap (λ (c : Context). c.handed) declares ∙ numbers.only_types.handed;
        asked = λ n agrees.
            let before : Agrees n mid = agrees_before mid new n further agrees in
            subst (λ (faults : List Fault). Asked abi storage base name params n (declared old) faults) (subst (IsFirstOf (Faults n)) is (broken n before)) (asked_as slice same asks n before);
        declares = λ n agrees.
            let before : Agrees n mid = agrees_before mid new n further agrees in
            let result_number : number ≡ n.number (with_stars (out-Declared name).stars (n.ctype base.ctype)) = sym (number_back n mid number before numbers.below) ∙ ap n.number (numbers.meant n before) in
            let param_numbers : types ≡ map n.number (map (λ (param : Parameter). param.ctype) (map (parameter_at n) params)) = sym (numbers_back n mid before types below) ∙ ap (map n.number) (params_meant n) in
            let there : declared mid ≡ declared old = sym (declared_by_types old mid numbers.only_types) in
            ap declared declares
            ∙ ((λ i. linked_in (spelling i) (result_number i) (param_numbers i) (there i))
            ∙ ap (λ (now : Linked). name_linked_as n (out-Declared name).name (out-Declared name).place.at None now (declared old))
            (sym (composite_is (option_and_then (linked_at n) (value_in (out-Declared name).name old.environment.linked)) (with_stars (out-Declared name).stars (n.ctype base.ctype)) (map (λ (param : Parameter). param.ctype) (map (parameter_at n) params)))));
      }

-- the numbers of the types of parameters are those of a context in which only more types have numbers
pub types_below : (old mid : Context) (params : List ParameterByNumber) (types : List ℕ) → OnlyTypes old mid → types ≡ numbers_of params
    → All (λ param. param.ctype < length old.types) params → All (λ (number : ℕ). number < length mid.types) types
types_below old mid params types only listed below =
    subst (λ (these : List ℕ). All (λ (number : ℕ). number < length mid.types) these) (sym listed)
    (All-map (λ (number : ℕ). number < length mid.types) (λ (param : ParameterByNumber). param.ctype) params
    (λ at default inside. below_only_types old mid only (get_or params at default).ctype (below at default inside)))
