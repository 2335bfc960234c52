-- What is found of the head of a function with its parameters, whose scope is not left behind it, and of a head with its body.
use Rattle.std.proofs.Common.{◌≡◌, ◌≤◌, ◌<◌, ◌++◌, ℕ, Bool, true, false, List, map, All, length, refl, sym, ap, subst, ◌∙◌, arith, Option, None, Some, Result, Ok, Err, IfOk}
use Rattle.std.specs.Prelude.{option_map}
use Rattle.std.proofs.lemmas.List.{map-append}
use Rattle.std.proofs.lemmas.List.Elements.{All-nil}
use Rattle.cbase.specs.declared.abi.Abi.{Abi}
use Rattle.cbase.specs.declared.ctype.CType.{CType}
use Rattle.cbase.specs.declared.no_memory.NoMemory.{NoMemory}
use Rattle.cbase.specs.declared.tree.decl.Declared.{Declared as DeclaredName}
use Rattle.cbase.specs.declared.tree.decl.Param.{Param}
use Rattle.cbase.specs.declared.tree.decl.Storage.{Storage}
use Rattle.cbase.specs.declared.tree.expr.ExprForm.TheViews.{out-Declared}
use Rattle.cbase.specs.declared.tree.stmt.Stmt.{Stmt}
use Rattle.ctrees.specs.Levels.{depth, declared_levels, param_levels}
use Rattle.ctrees.specs.Weight.{list_or_nothing}
use Rattle.ctrees.proofs.Sizes.{declared_levels_parts}
use Rattle.typing.specs.environment.Environment.{function_set, loop_set}
use Rattle.typing.specs.declared.fault.Fault.{Fault}
use Rattle.typing.specs.Heads.{head_declared, head_rows, names_in, params_of, result_of}
use Rattle.typing.specs.Items.{HeadIs, DefinitionIs, HeadRefused, HeadBroken, HeadGiven, DefinitionHeadRefused, DefinitionWithBody}
use Rattle.typing.specs.Outcomes.{Outcome, Handed, Passes, Refused}
use Rattle.typing.specs.Typing.{ParametersAre, StatementsAre, Finds}
use Rattle.expressions.specs.declared.found.Found.{Found}
use Rattle.expressions.specs.declared.found.Found.TheVariants.{Passes as FoundToPass, Refused as FoundRefused}
use Rattle.expressions.specs.declared.named_type.NamedType.{NamedType as NamedByNumber}
use Rattle.expressions.specs.Context.{Context, Declared, declared, Agrees, Grows}
use Rattle.expressions.specs.FileScope.{file_scope}
use Rattle.expressions.specs.Found.{a_value_type, nothing}
use Rattle.expressions.specs.Language.{language}
use Rattle.expressions.specs.Numbers.{Numbering, handed_at, named_at}
use Rattle.expressions.specs.Walked.{Tells, Passed, Stopped, Walked, Says}
use Rattle.expressions.proofs.Blocks.{inside}
use Rattle.expressions.proofs.Growth.{agrees_before, below_grows, grows_trans, number_back}
use Rattle.expressions.proofs.Levels.{each_within}
use Rattle.expressions.proofs.Walking.{handed_behind, passed_of, stopped_of}
use Rattle.items.specs.declared.parameters.parameter.Parameter.{Parameter as ParameterByNumber}
use Rattle.items.specs.parameters.Parameters.{parameter_at, some_parameters}
use Rattle.items.proofs.parameters.FunctionNames.{inside_grows}
use Rattle.items.specs.Heads.{IsHead, rows_if_bodied}
use Rattle.items.specs.InFile.{SaysInFileBy}
use Rattle.items.proofs.heads.HeadRows.{rows_meant}

-- each parameter is no deeper than the name
within_parts : (params : Option (List Param)) (bound : ℕ) → list_or_nothing depth (option_map (map param_levels) params) ≤ bound → All (λ param. param_levels param ≤ bound) (params_of params)
within_parts None bound deep = All-nil (λ (param : Param). param_levels param ≤ bound)
within_parts (Some params) bound deep = each_within param_levels bound params deep

pub params_within : (name : DeclaredName) (items : List Param) (bound : ℕ) → items ≡ params_of (out-Declared name).params → declared_levels name ≤ bound → All (λ param. param_levels param ≤ bound) items
params_within name items bound same deep =
    let levels = declared_levels_parts name in
    subst (λ (these : List Param). All (λ param. param_levels param ≤ bound) these) (sym same)
    (within_parts (out-Declared name).params bound (omega (arith, levels, deep)))

module _ (abi : Abi) (bodied : Bool) (storage : Storage) (base : NamedByNumber) (name : DeclaredName) where
  abbrev pub SaysHead : Tells CType
  SaysHead = SaysInFileBy abi (λ n o. HeadIs bodied storage (named_at n base) name o)

  abbrev Parametered : List Param → List ParameterByNumber → Context → Context → Found (Unit {0}) → Type 0
  Parametered params kept before after found = Walked (Says abi (λ o. ParametersAre params o)) (some_parameters kept) before after found

  module _ (kept : List ParameterByNumber) (old late : Context) where
    abbrev PassesThere : Type 0
    PassesThere = Passed (Says abi (λ o. ParametersAre (params_of (out-Declared name).params) o)) (some_parameters kept) (inside old) late tt

    -- what is found at the name behind its parameters
    head_there : (new : Context) (found : Found ℕ) → PassesThere → IsHead abi bodied storage base name kept late new found → Walked SaysHead a_value_type old new found
    head_there new (FoundToPass told) passed is = record {
      rows = passed.rows ++ rows_if_bodied bodied told name kept;
      handed = handed_behind old.handed late.handed new.handed passed.rows (rows_if_bodied bodied told name kept) passed.handed is.handed;
      grows = grows_trans old late new (grows_trans old (inside old) late (inside_grows old) passed.grows) is.grows;
      below = is.below;
      found = λ n agrees.
          let asked = is.asked n agrees in
          let meant = is.meant n agrees in
          let before : Agrees n late = agrees_before late new n is.grows agrees in
          let rows = map-append (handed_at n) passed.rows (rows_if_bodied bodied told name kept) ∙ ap (λ (further : List Handed). map (handed_at n) passed.rows ++ further) (rows_meant n bodied (named_at n base) name kept told meant) in
          let after : Declared = head_declared (language abi n) (file_scope abi n) bodied (named_at n base) (out-Declared name) (names_in (out-Declared name)) (map (parameter_at n) kept) (declared late) in
          let outcome : Passes (result_of (named_at n base) (out-Declared name)) (map (handed_at n) passed.rows ++ head_rows bodied (named_at n base) (out-Declared name) (names_in (out-Declared name)) (map (parameter_at n) kept))
          ≡ Passes (n.ctype told) (map (handed_at n) (passed.rows ++ rows_if_bodied bodied told name kept)) = λ i. Passes (sym meant i) (sym rows i) in
          subst (λ (behind : Declared). SaysHead n (declared old) (Passes (n.ctype told) (map (handed_at n) (passed.rows ++ rows_if_bodied bodied told name kept))) behind) (sym (is.declares n agrees))
          (subst (λ (o : Outcome CType). SaysHead n (declared old) o after) outcome
          (HeadGiven asked.other refl (passed.found n before) asked.is_other asked.broken));
    }
    head_there new (FoundRefused first) passed is = record {
      grows = grows_trans old late new (grows_trans old (inside old) late (inside_grows old) passed.grows) is.grows;
      found = λ n agrees.
          let asked = is.asked n agrees in
          let before : Agrees n late = agrees_before late new n is.grows agrees in
          subst (λ (after : Declared). SaysHead n (declared old) (Refused first) after) (sym is.same)
          (HeadBroken asked.other refl (passed.found n before) asked.is_other refl asked.broken);
    }

  module _ (items : List Param) (kept : List ParameterByNumber) (old mid late : Context) (walked : Found (Unit {0}))
      (same : items ≡ params_of (out-Declared name).params) (opens : mid ≡ inside old) (walks : Parametered items kept mid late walked) where
    walks_inside : Parametered (params_of (out-Declared name).params) kept (inside old) late walked
    walks_inside = subst (λ (before : Context). Parametered (params_of (out-Declared name).params) kept before late walked) opens
        (subst (λ (these : List Param). Parametered these kept mid late walked) same walks)

    passes_inside : walked ≡ FoundToPass tt → PassesThere kept old late
    passes_inside passes = passed_of (Says abi (λ o. ParametersAre (params_of (out-Declared name).params) o)) (some_parameters kept) (inside old) late tt walked passes walks_inside

    -- what is refused in the parameters
    pub head_refused : (first : Fault) → walked ≡ FoundRefused first → Stopped SaysHead old late first
    head_refused first refused =
        let stopped = stopped_of (Says abi (λ o. ParametersAre (params_of (out-Declared name).params) o)) (some_parameters kept) (inside old) late first walked refused walks_inside in
        record { grows = grows_trans old (inside old) late (inside_grows old) stopped.grows; found = λ n agrees. HeadRefused refl (stopped.found n agrees) }

    -- the type in front of the name is one of the context behind them, and so are those of the parameters
    pub base_below : walked ≡ FoundToPass tt → base.ctype < length old.types → base.ctype < length late.types
    base_below passes below = below_grows old late (grows_trans old (inside old) late (inside_grows old) (passes_inside passes).grows) base.ctype below

    pub kept_below : (these : List ParameterByNumber) → these ≡ kept → walked ≡ FoundToPass tt → All (λ param. param.ctype < length late.types) these
    kept_below these alike passes = subst (λ (all : List ParameterByNumber). All (λ param. param.ctype < length late.types) all) (sym alike) (passes_inside passes).below

    -- what is found at the name behind them
    pub head_walked : (these : List ParameterByNumber) (new : Context) (r : Result (Found ℕ) NoMemory) → these ≡ kept → walked ≡ FoundToPass tt
        → IfOk r (λ found. IsHead abi bodied storage base name these late new found) → IfOk r (λ found. Walked SaysHead a_value_type old new found)
    head_walked these new (Ok found) alike passes is =
        head_there kept old late new found (passes_inside passes) (subst (λ (all : List ParameterByNumber). IsHead abi bodied storage base name all late new found) alike is)
    head_walked these new (Err error) alike passes is = tt

-- a head with its body
module _ (abi : Abi) (storage : Storage) (base : NamedByNumber) (name : DeclaredName) (body : List Stmt) where
  abbrev pub SaysDefinition : Tells (Unit {0})
  SaysDefinition = SaysInFileBy abi (λ n o. DefinitionIs storage (named_at n base) name body o)

  pub definition_refused : (old new : Context) (first : Fault) (head : Found ℕ) → head ≡ FoundRefused first → Walked (SaysHead abi true storage base name) a_value_type old new head
      → Stopped SaysDefinition old new first
  definition_refused old new first head refused walked =
      let stopped = stopped_of (SaysHead abi true storage base name) a_value_type old new first head refused walked in
      record { grows = stopped.grows; found = λ n agrees. DefinitionHeadRefused (stopped.found n agrees) }

  -- in the body of a function whose result has the type of that number, and in no loop
  abbrev begun : ℕ → Context → Context
  begun number context = record context { environment = loop_set false (function_set (Some number) context.environment) }

  begun_grows : (number : ℕ) (context : Context) → Grows context (begun number context)
  begun_grows number context = record { types = λ at t is. is; structs = λ at s is complete. is; longer = omega arith; signatures = λ at s is. is }

  pub number_of_head : (old mid : Context) (number : ℕ) (head : Found ℕ) → head ≡ FoundToPass number → Walked (SaysHead abi true storage base name) a_value_type old mid head
      → number < length mid.types
  number_of_head old mid number head passes walked = (passed_of (SaysHead abi true storage base name) a_value_type old mid number head passes walked).below

  module _ (old mid behind new : Context) (number : ℕ) (head : Found ℕ) (passes : head ≡ FoundToPass number) (walked : Walked (SaysHead abi true storage base name) a_value_type old mid head)
      (begins : behind ≡ begun number mid) where
    head_passed : Passed (SaysHead abi true storage base name) a_value_type old mid number
    head_passed = passed_of (SaysHead abi true storage base name) a_value_type old mid number head passes walked

    grows_behind : Grows old behind
    grows_behind = grows_trans old mid behind head_passed.grows (subst (Grows mid) (sym begins) (begun_grows number mid))

    -- what is found behind the head is found in the body
    body_there : (n : Numbering) → Agrees n behind → (found : Outcome CType) (after : Declared) → Finds (language abi n) (declared behind) (StatementsAre body found) after
        → Finds (language abi n) ((language abi n).loop_set false ((file_scope abi n).result_set (Some (n.ctype number)) (declared mid))) (StatementsAre body found) after
    body_there n agrees found after is =
        let before : Agrees n mid = agrees_before mid behind n (subst (Grows mid) (sym begins) (begun_grows number mid)) agrees in
        let back : number ≡ n.number (n.ctype number) = sym (number_back n mid number before head_passed.below) in
        subst (λ (env : Declared). Finds (language abi n) env (StatementsAre body found) after)
        (ap declared begins ∙ (λ i. record { environment = loop_set false (function_set (Some (back i)) mid.environment); structs = mid.structs })) is

    pub definition_stops : (first : Fault) (found : Found ℕ) → found ≡ FoundRefused first → Walked (Says abi (λ o. StatementsAre body o)) a_value_type behind new found
        → Stopped SaysDefinition old new first
    definition_stops first found refused is =
        let stopped = stopped_of (Says abi (λ o. StatementsAre body o)) a_value_type behind new first found refused is in
        record {
          grows = grows_trans old behind new grows_behind stopped.grows;
          found = λ n agrees.
              let there : Agrees n behind = agrees_before behind new n stopped.grows agrees in
              let before : Agrees n mid = agrees_before mid behind n (subst (Grows mid) (sym begins) (begun_grows number mid)) there in
              DefinitionWithBody (head_passed.found n before) (body_there n there (Refused first) (declared new) (stopped.found n agrees));
        }

    pub definition_passes : (value : ℕ) (found : Found ℕ) → found ≡ FoundToPass value → Walked (Says abi (λ o. StatementsAre body o)) a_value_type behind new found
        → Passed SaysDefinition nothing old new tt
    definition_passes value found goes is =
        let passed = passed_of (Says abi (λ o. StatementsAre body o)) a_value_type behind new value found goes is in
        let handed : behind.handed ≡ old.handed ++ head_passed.rows = ap (λ (c : Context). c.handed) begins ∙ head_passed.handed in
        record {
          rows = head_passed.rows ++ passed.rows;
          handed = handed_behind old.handed behind.handed new.handed head_passed.rows passed.rows handed passed.handed;
          grows = grows_trans old behind new grows_behind passed.grows;
          below = tt;
          found = λ n agrees.
              let there : Agrees n behind = agrees_before behind new n passed.grows agrees in
              let before : Agrees n mid = agrees_before mid behind n (subst (Grows mid) (sym begins) (begun_grows number mid)) there in
              subst (λ (rows : List Handed). SaysDefinition n (declared old) (Passes tt rows) (declared new)) (sym (map-append (handed_at n) head_passed.rows passed.rows))
              (DefinitionWithBody (head_passed.found n before)
              (body_there n there (Passes (n.ctype value) (map (handed_at n) passed.rows)) (declared new) (passed.found n agrees)));
        }
