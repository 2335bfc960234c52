-- What is found of the name of a function with its parameters, which have a scope of their own.
use Rattle.std.proofs.Common.{◌≡◌, ◌≤◌, ◌<◌, ℕ, List, map, max, All, length, refl, sym, ap, subst, ◌∙◌, arith, Some, Result, Ok, Err, IfOk}
use Rattle.std.specs.Prelude.{option_map}
use Rattle.cbase.specs.declared.abi.Abi.{Abi}
use Rattle.cbase.specs.declared.no_memory.NoMemory.{NoMemory}
use Rattle.cbase.specs.declared.tree.decl.Declared.{Declared as DeclaredName}
use Rattle.cbase.specs.declared.tree.decl.Param.{Param}
use Rattle.cbase.specs.declared.tree.decl.Storage.{Storage}
use Rattle.cbase.specs.declared.tree.expr.ExprForm.TheViews.{out-Declared}
use Rattle.ctrees.specs.Levels.{depth, declared_levels, param_levels, init_levels, maybe_levels}
use Rattle.ctrees.specs.Weight.{joined, list_or_nothing, or_nothing}
use Rattle.ctrees.proofs.Sizes.{declared_levels_parts}
use Rattle.typing.specs.declared.fault.Fault.{Fault}
use Rattle.typing.specs.Outcomes.{Passes, Refused}
use Rattle.typing.specs.Typing.{DeclaredNameIs, ParametersAre, Finds, ParametersRefused, FunctionBroken, FunctionGiven}
use Rattle.expressions.specs.declared.found.Found.{Found}
use Rattle.expressions.specs.declared.found.Found.TheVariants.{Passes as FoundToPass, Refused as FoundRefused}
use Rattle.expressions.specs.declared.named_type.NamedType.{NamedType as NamedByNumber}
use Rattle.expressions.specs.Context.{Context, Declared, declared, Agrees, Grows}
use Rattle.expressions.specs.Found.{nothing}
use Rattle.expressions.specs.Numbers.{handed_at, named_at}
use Rattle.expressions.specs.Language.{language}
use Rattle.expressions.specs.Walked.{Passed, Stopped, Walked, Says, SaysBy}
use Rattle.expressions.proofs.Blocks.{inside, outside}
use Rattle.expressions.proofs.Growth.{agrees_before, below_grows, grows_trans}
use Rattle.expressions.proofs.Levels.{each_within}
use Rattle.expressions.proofs.Walking.{passed_of, stopped_of}
use Rattle.items.specs.declared.parameters.parameter.Parameter.{Parameter as ParameterByNumber}
use Rattle.items.specs.parameters.Named.{IsNamed}
use Rattle.items.specs.parameters.Parameters.{some_parameters}

-- each parameter is no deeper than the name
pub parameters_within : (name : DeclaredName) (params items : List Param) (bound : ℕ) → (out-Declared name).params ≡ Some params → items ≡ params → declared_levels name ≤ bound
    → All (λ param. param_levels param ≤ bound) items
parameters_within name params items bound has same deep =
    let sizes = joined depth (map maybe_levels (out-Declared name).sizes) in
    let init = or_nothing (option_map init_levels (out-Declared name).init) in
    let levels : declared_levels name ≡ max sizes (max (joined depth (map param_levels params)) init) =
    declared_levels_parts name ∙ ap (λ these. max sizes (max (list_or_nothing depth (option_map (map param_levels) these)) init)) has in
    let alike : joined depth (map param_levels items) ≡ joined depth (map param_levels params) = ap (λ (these : List Param). joined depth (map param_levels these)) same in
    each_within param_levels bound items (omega arith)

pub inside_grows : (context : Context) → Grows context (inside context)
inside_grows context = record { types = λ number t is. is; structs = λ number s is complete. is; longer = omega arith; signatures = λ number s is. is }

outside_grows : (context : Context) → Grows context (outside context)
outside_grows context = record { types = λ number t is. is; structs = λ number s is complete. is; longer = omega arith; signatures = λ number s is. is }

module _ (abi : Abi) (storage : Storage) (base : NamedByNumber) (name : DeclaredName) (params : List Param) (kept : List ParameterByNumber) (old late : Context) (has : (out-Declared name).params ≡ Some params) where
  abbrev Parametered : Context → Found (Unit {0}) → Type 0
  Parametered before found = Walked (Says abi (λ o. ParametersAre params o)) (some_parameters kept) before late found

  scope_grows : Grows (inside old) late → Grows old (outside late)
  scope_grows grows = grows_trans old (inside old) (outside late) (inside_grows old) (grows_trans (inside old) late (outside late) grows (outside_grows late))

  refused_there : (first : Fault) → Stopped (Says abi (λ o. ParametersAre params o)) (inside old) late first
      → Stopped (SaysBy abi (λ n o. DeclaredNameIs storage (named_at n base) name o)) old (outside late) first
  refused_there first stopped = record {
    grows = scope_grows stopped.grows;
    found = λ n agrees. ParametersRefused refl has (stopped.found n (agrees_before late (outside late) n (outside_grows late) agrees));
  }

  named_there : (new : Context) (found : Found (Unit {0})) → Passed (Says abi (λ o. ParametersAre params o)) (some_parameters kept) (inside old) late tt
      → IsNamed abi storage base name kept (outside late) new found
      → Walked (SaysBy abi (λ n o. DeclaredNameIs storage (named_at n base) name o)) nothing old new found
  named_there new (FoundToPass told) passed is = record {
    rows = passed.rows;
    handed = is.handed ∙ passed.handed;
    grows = grows_trans old (outside late) new (scope_grows passed.grows) is.grows;
    below = tt;
    found = λ n agrees.
        let asked = is.asked n agrees in
        let before : Agrees n late = agrees_before late (outside late) n (outside_grows late) (agrees_before (outside late) new n is.grows agrees) in
        subst (λ (after : Declared). Finds (language abi n) (declared old) (DeclaredNameIs storage (named_at n base) name (Passes tt (map (handed_at n) passed.rows))) after) (sym (is.declares n agrees))
        (FunctionGiven asked.again refl has (passed.found n before) asked.is_again asked.broken);
  }
  named_there new (FoundRefused first) passed is = record {
    grows = grows_trans old (outside late) new (scope_grows passed.grows) is.grows;
    found = λ n agrees.
        let broken = is.asked n agrees in
        let before : Agrees n late = agrees_before late (outside late) n (outside_grows late) (agrees_before (outside late) new n is.grows agrees) in
        subst (λ (after : Declared). Finds (language abi n) (declared old) (DeclaredNameIs storage (named_at n base) name (Refused first)) after) (sym is.same)
        (FunctionBroken broken.1.0.again refl has (passed.found n before) broken.1.0.is_again broken.1.0.broken broken.1.1);
  }

module _ (abi : Abi) (storage : Storage) (base : NamedByNumber) (name : DeclaredName) (params items : List Param) (kept : List ParameterByNumber) (old mid late closed : Context) (walked : Found (Unit {0}))
    (has : (out-Declared name).params ≡ Some params) (same : items ≡ params) (opens : mid ≡ inside old) (closes : closed ≡ outside late)
    (walks : Walked (Says abi (λ o. ParametersAre items o)) (some_parameters kept) mid late walked) where
  walks_inside : Walked (Says abi (λ o. ParametersAre params o)) (some_parameters kept) (inside old) late walked
  walks_inside = subst (λ (before : Context). Walked (Says abi (λ o. ParametersAre params o)) (some_parameters kept) before late walked) opens
      (subst (λ (these : List Param). Walked (Says abi (λ o. ParametersAre these o)) (some_parameters kept) mid late walked) same walks)

  passes_inside : walked ≡ FoundToPass tt → Passed (Says abi (λ o. ParametersAre params o)) (some_parameters kept) (inside old) late tt
  passes_inside passes = passed_of (Says abi (λ o. ParametersAre params o)) (some_parameters kept) (inside old) late tt walked passes walks_inside

  -- what is refused in the parameters
  pub function_refused : (first : Fault) → walked ≡ FoundRefused first → Stopped (SaysBy abi (λ n o. DeclaredNameIs storage (named_at n base) name o)) old closed first
  function_refused first refused =
      subst (λ (context : Context). Stopped (SaysBy abi (λ n o. DeclaredNameIs storage (named_at n base) name o)) old context first) (sym closes)
      (refused_there abi storage base name params kept old late has first
      (stopped_of (Says abi (λ o. ParametersAre params o)) (some_parameters kept) (inside old) late first walked refused walks_inside))

  -- the type in front of the name is one of the context behind them, and so are those of the parameters
  pub base_below : walked ≡ FoundToPass tt → base.ctype < length old.types → base.ctype < length closed.types
  base_below passes below =
      subst (λ (context : Context). base.ctype < length context.types) (sym closes)
      (below_grows old (outside late) (scope_grows abi storage base name params kept old late has (passes_inside passes).grows) base.ctype below)

  pub kept_below : (these : List ParameterByNumber) → these ≡ kept → walked ≡ FoundToPass tt → All (λ param. param.ctype < length closed.types) these
  kept_below these alike passes =
      subst (λ (all : List ParameterByNumber). All (λ param. param.ctype < length closed.types) all) (sym alike)
      (subst (λ (context : Context). All (λ param. param.ctype < length context.types) kept) (sym closes) (passes_inside passes).below)

  -- what is found at the name behind them
  pub function_walked : (these : List ParameterByNumber) (new : Context) (r : Result (Found (Unit {0})) NoMemory) → these ≡ kept → walked ≡ FoundToPass tt
      → IfOk r (λ found. IsNamed abi storage base name these closed new found)
      → IfOk r (λ found. Walked (SaysBy abi (λ n o. DeclaredNameIs storage (named_at n base) name o)) nothing old new found)
  function_walked these new (Ok found) alike passes is =
      named_there abi storage base name params kept old late has new found (passes_inside passes)
      (subst (λ (context : Context). IsNamed abi storage base name kept context new found) closes
      (subst (λ (all : List ParameterByNumber). IsNamed abi storage base name all closed new found) alike is))
  function_walked these new (Err error) alike passes is = tt
