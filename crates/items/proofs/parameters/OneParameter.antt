-- What is found of a parameter behind its words and its sizes.
use Rattle.std.proofs.Common.{◌≡◌, ◌≤◌, ◌<◌, ◌++◌, ℕ, List, map, max, All, length, refl, sym, ap, subst, ◌∙◌, arith, Option, Result, Ok, IfOk}
use Rattle.std.proofs.lemmas.List.{map-append}
use Rattle.cbase.specs.declared.abi.Abi.{Abi}
use Rattle.cbase.specs.declared.no_memory.NoMemory.{NoMemory}
use Rattle.cbase.specs.declared.tree.decl.Param.{Param}
use Rattle.cbase.specs.declared.tree.expr.Expr.{Expr}
use Rattle.cbase.specs.declared.tree.expr.ExprForm.TheViews.{out-Param, out-TypeSpec}
use Rattle.ctrees.specs.Levels.{depth, param_levels, spec_levels, maybe_levels}
use Rattle.ctrees.specs.Weight.{joined}
use Rattle.ctrees.proofs.Sizes.{param_levels_parts}
use Rattle.typing.specs.declared.fault.Fault.{Fault}
use Rattle.typing.specs.declared.size.Size.{Size}
use Rattle.typing.specs.Declarations.{parameter_declared}
use Rattle.typing.specs.Outcomes.{Handed, Passes}
use Rattle.typing.specs.Typing.{ParameterIs, SizesAre, WordsAre, Finds, ParameterFound, ParameterWordsRefused, ParameterSizesRefused}
use Rattle.expressions.specs.declared.found.Found.{Found}
use Rattle.expressions.specs.declared.found.Found.TheVariants.{Passes as FoundToPass, Refused as FoundRefused}
use Rattle.expressions.specs.declared.named_type.NamedType.{NamedType as NamedByNumber}
use Rattle.expressions.specs.Context.{Context, Declared, declared, Agrees}
use Rattle.expressions.specs.Found.{a_type, some_sizes}
use Rattle.expressions.specs.Numbers.{handed_at}
use Rattle.expressions.specs.Language.{language}
use Rattle.expressions.specs.Walked.{Passed, Stopped, Walked, Says}
use Rattle.expressions.proofs.Growth.{agrees_before, grows_trans, below_grows}
use Rattle.expressions.proofs.Levels.{each_within}
use Rattle.expressions.proofs.Walking.{handed_behind, passed_of, stopped_of}
use Rattle.items.specs.declared.parameters.parameter.Parameter.{Parameter as ParameterByNumber}
use Rattle.items.specs.parameters.Parameters.{a_parameter, parameter_at}
use Rattle.items.specs.parameters.Taken.{IsTaken}

-- its words and each of its sizes are no deeper than the whole
pub words_within : (param : Param) (bound : ℕ) → param_levels param ≤ bound → spec_levels (out-Param param).spec ≤ bound
words_within param bound deep = omega (arith, param_levels_parts param)

pub sizes_within : (param : Param) (bound : ℕ) (sizes : List (Option Expr)) → sizes ≡ (out-Param param).sizes → param_levels param ≤ bound → All (λ size. maybe_levels size ≤ bound) sizes
sizes_within param bound sizes same within =
    let parts : param_levels param ≡ max (spec_levels (out-Param param).spec) (joined depth (map maybe_levels (out-Param param).sizes)) = param_levels_parts param in
    let alike : joined depth (map maybe_levels sizes) ≡ joined depth (map maybe_levels (out-Param param).sizes) = ap (λ (these : List (Option Expr)). joined depth (map maybe_levels these)) same in
    each_within maybe_levels bound sizes (omega arith)

module _ (abi : Abi) (param : Param) where
  -- its sizes, whatever they are called
  pub sizes_of : (all : List (Option Expr)) (sizes : List Size) (old new : Context) (found : Found (Unit {0})) → all ≡ (out-Param param).sizes
      → Walked (Says abi (λ o. SizesAre all o)) (some_sizes sizes) old new found
      → Walked (Says abi (λ o. SizesAre (out-Param param).sizes o)) (some_sizes sizes) old new found
  sizes_of all sizes old new found same walked =
      subst (λ (these : List (Option Expr)). Walked (Says abi (λ o. SizesAre these o)) (some_sizes sizes) old new found) same walked

  -- what is refused in its words
  pub words_refused : (old new : Context) (found : Found NamedByNumber) (first : Fault) → found ≡ FoundRefused first
      → Walked (Says abi (λ o. WordsAre (out-TypeSpec (out-Param param).spec) o)) a_type old new found
      → Stopped (Says abi (λ o. ParameterIs param o)) old new first
  words_refused old new found first is walked =
      let stopped = stopped_of (Says abi (λ o. WordsAre (out-TypeSpec (out-Param param).spec) o)) a_type old new first found is walked in
      record { grows = stopped.grows; found = λ n agrees. ParameterWordsRefused refl refl (stopped.found n agrees) }

  module _ (old mid new : Context) (base : NamedByNumber) (words : Found NamedByNumber) (sizes : List Size) (counts : Found (Unit {0})) where
    -- what is refused in its sizes
    pub sizes_stop : (first : Fault) → words ≡ FoundToPass base → counts ≡ FoundRefused first
        → Walked (Says abi (λ o. WordsAre (out-TypeSpec (out-Param param).spec) o)) a_type old mid words
        → Walked (Says abi (λ o. SizesAre (out-Param param).sizes o)) (some_sizes sizes) mid new counts
        → Stopped (Says abi (λ o. ParameterIs param o)) old new first
    sizes_stop first passes stops walked behind_it =
        let passed = passed_of (Says abi (λ o. WordsAre (out-TypeSpec (out-Param param).spec) o)) a_type old mid base words passes walked in
        let stopped = stopped_of (Says abi (λ o. SizesAre (out-Param param).sizes o)) (some_sizes sizes) mid new first counts stops behind_it in
        record {
          grows = grows_trans old mid new passed.grows stopped.grows;
          found = λ n agrees. ParameterSizesRefused refl refl (passed.found n (agrees_before mid new n stopped.grows agrees)) (stopped.found n agrees);
        }

    -- its words have a type of the context behind its sizes
    pub base_below : words ≡ FoundToPass base → counts ≡ FoundToPass tt
        → Walked (Says abi (λ o. WordsAre (out-TypeSpec (out-Param param).spec) o)) a_type old mid words
        → Walked (Says abi (λ o. SizesAre (out-Param param).sizes o)) (some_sizes sizes) mid new counts
        → base.ctype < length new.types
    base_below passes goes walked behind_it =
        let passed = passed_of (Says abi (λ o. WordsAre (out-TypeSpec (out-Param param).spec) o)) a_type old mid base words passes walked in
        let counted = passed_of (Says abi (λ o. SizesAre (out-Param param).sizes o)) (some_sizes sizes) mid new tt counts goes behind_it in
        below_grows mid new counted.grows base.ctype passed.below

    -- the whole
    pub parameter_found : (later : Context) (told : ParameterByNumber) → words ≡ FoundToPass base → counts ≡ FoundToPass tt
        → Walked (Says abi (λ o. WordsAre (out-TypeSpec (out-Param param).spec) o)) a_type old mid words
        → Walked (Says abi (λ o. SizesAre (out-Param param).sizes o)) (some_sizes sizes) mid new counts
        → IsTaken abi param base sizes new later told
        → Passed (Says abi (λ o. ParameterIs param o)) a_parameter old later told
    parameter_found later told passes goes walked behind_it takes =
        let passed = passed_of (Says abi (λ o. WordsAre (out-TypeSpec (out-Param param).spec) o)) a_type old mid base words passes walked in
        let counted = passed_of (Says abi (λ o. SizesAre (out-Param param).sizes o)) (some_sizes sizes) mid new tt counts goes behind_it in
        record {
          rows = passed.rows ++ counted.rows;
          handed = takes.handed ∙ handed_behind old.handed mid.handed new.handed passed.rows counted.rows passed.handed counted.handed;
          grows = grows_trans old mid later passed.grows (grows_trans mid new later counted.grows takes.grows);
          below = takes.below;
          found = λ n agrees.
              let here : Agrees n new = agrees_before new later n takes.grows agrees in
              let there : Agrees n mid = agrees_before mid new n counted.grows here in
              let found : Finds (language abi n) (declared old) (ParameterIs param (Passes (parameter_at n told) (map (handed_at n) passed.rows ++ map (handed_at n) counted.rows)))
              (parameter_declared (language abi n) (out-Param param).name (n.ctype told.ctype) (declared new)) =
              ParameterFound refl refl (passed.found n there) (counted.found n here) (sym (takes.meant n agrees)) in
              subst (λ (after : Declared). Finds (language abi n) (declared old) (ParameterIs param (Passes (parameter_at n told) (map (handed_at n) (passed.rows ++ counted.rows)))) after) (sym (takes.declares n agrees))
              (subst (λ (handed : List Handed). Finds (language abi n) (declared old) (ParameterIs param (Passes (parameter_at n told) handed)) (parameter_declared (language abi n) (out-Param param).name (n.ctype told.ctype) (declared new)))
              (sym (map-append (handed_at n) passed.rows counted.rows)) found);
        }

-- what is taken, where it is, of sizes that code calls otherwise
pub takes_now : (abi : Abi) (param : Param) (base : NamedByNumber) (sizes other : List Size) (new later : Context) (told : ParameterByNumber) (r : Result ParameterByNumber NoMemory)
    → r ≡ Ok told → other ≡ sizes → IfOk r (λ one. IsTaken abi param base other new later one) → IsTaken abi param base sizes new later told
takes_now abi param base sizes other new later told r is same takes =
    subst (λ (these : List Size). IsTaken abi param base these new later told) same
    (subst (λ (result : Result ParameterByNumber NoMemory). IfOk result (λ one. IsTaken abi param base other new later one)) is takes)
