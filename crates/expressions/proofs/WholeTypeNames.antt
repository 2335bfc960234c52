-- What is found of a type name behind its words and its sizes.
use Rattle.std.proofs.Common.{◌≡◌, ◌≤◌, ◌<◌, ◌++◌, ℕ, List, map, max, All, length, refl, sym, subst, ◌∙◌, arith, Option, Result, Ok, IfOk}
use Rattle.std.proofs.lemmas.List.{map-append}
use Rattle.cbase.specs.declared.abi.Abi.{Abi}
use Rattle.cbase.specs.declared.no_memory.NoMemory.{NoMemory}
use Rattle.cbase.specs.declared.tree.decl.TypeName.{TypeName}
use Rattle.cbase.specs.declared.tree.expr.Expr.{Expr}
use Rattle.cbase.specs.declared.tree.expr.ExprForm.TheViews.{out-TypeName, out-TypeSpec}
use Rattle.ctrees.specs.Levels.{depth, type_name_levels, spec_levels, maybe_levels}
use Rattle.ctrees.specs.Weight.{joined}
use Rattle.ctrees.proofs.Sizes.{type_name_levels_parts}
use Rattle.typing.specs.declared.fault.Fault.{Fault}
use Rattle.typing.specs.declared.size.Size.{Size}
use Rattle.typing.specs.NamedTypes.{NamedType, declared as declared_as, declared_type, is_large}
use Rattle.typing.specs.Outcomes.{Handed, Passes}
use Rattle.typing.specs.Typing.{NameOfTypeIs, SizesAre, WordsAre, Finds, TypeNamed, WordsRefused, SizesRefused}
use Rattle.expressions.specs.declared.found.Found.{Found}
use Rattle.expressions.specs.declared.found.Found.TheVariants.{Passes as FoundToPass, Refused as FoundRefused}
use Rattle.expressions.specs.declared.named_type.NamedType.{NamedType as NamedByNumber}
use Rattle.expressions.specs.Context.{Context, Declared, declared, Agrees}
use Rattle.expressions.specs.Found.{a_type, some_sizes}
use Rattle.expressions.specs.Numbers.{Numbering, named_at, handed_at}
use Rattle.expressions.specs.Language.{language}
use Rattle.expressions.specs.Types.{IsDeclared}
use Rattle.expressions.specs.Walked.{Passed, Stopped, Walked, Says}
use Rattle.expressions.proofs.Growth.{agrees_before, grows_trans, only_types_grows, below_grows}
use Rattle.expressions.proofs.Levels.{each_within}
use Rattle.expressions.proofs.Walking.{handed_behind, passed_of, stopped_of}

-- each size is no deeper than the whole
pub sizes_within : (to : TypeName) (bound : ℕ) (sizes : List (Option Expr)) → sizes ≡ (out-TypeName to).sizes → type_name_levels to ≤ bound
    → All (λ size. maybe_levels size ≤ bound) sizes
sizes_within to bound sizes same within =
    let parts : type_name_levels to ≡ max (spec_levels (out-TypeName to).spec) (joined depth (map maybe_levels (out-TypeName to).sizes)) = type_name_levels_parts to in
    let whole : max (spec_levels (out-TypeName to).spec) (joined depth (map maybe_levels (out-TypeName to).sizes)) ≤ bound = subst (λ (levels : ℕ). levels ≤ bound) parts within in
    each_within maybe_levels bound sizes (subst (λ (all : List (Option Expr)). joined depth (map maybe_levels all) ≤ bound) (sym same) (omega (arith, whole)))

module _ (abi : Abi) (to : TypeName) where
  -- its sizes, whatever they are called
  pub sizes_of : (all : List (Option Expr)) (sizes : List Size) (old new : Context) (found : Found (Unit {0})) → all ≡ (out-TypeName to).sizes
      → Walked (Says abi (λ o. SizesAre all o)) (some_sizes sizes) old new found
      → Walked (Says abi (λ o. SizesAre (out-TypeName to).sizes o)) (some_sizes sizes) old new found
  sizes_of all sizes old new found same walked =
      subst (λ (these : List (Option Expr)). Walked (Says abi (λ o. SizesAre these o)) (some_sizes sizes) old new found) same walked

  -- what is refused in its words
  pub words_refused : (old new : Context) (found : Found NamedByNumber) (first : Fault) → found ≡ FoundRefused first
      → Walked (Says abi (λ o. WordsAre (out-TypeSpec (out-TypeName to).spec) o)) a_type old new found
      → Stopped (Says abi (λ o. NameOfTypeIs to o)) old new first
  words_refused old new found first is walked =
      let stopped = stopped_of (Says abi (λ o. WordsAre (out-TypeSpec (out-TypeName to).spec) o)) a_type old new first found is walked in
      record { grows = stopped.grows; found = λ n agrees. WordsRefused refl refl (stopped.found n agrees) }

  module _ (old mid new : Context) (base : NamedByNumber) (words : Found NamedByNumber) (sizes : List Size) (counts : Found (Unit {0})) where
    -- what is refused in its sizes
    pub sizes_stop : (first : Fault) → words ≡ FoundToPass base → counts ≡ FoundRefused first
        → Walked (Says abi (λ o. WordsAre (out-TypeSpec (out-TypeName to).spec) o)) a_type old mid words
        → Walked (Says abi (λ o. SizesAre (out-TypeName to).sizes o)) (some_sizes sizes) mid new counts
        → Stopped (Says abi (λ o. NameOfTypeIs to o)) old new first
    sizes_stop first passes stops walked behind_it =
        let passed = passed_of (Says abi (λ o. WordsAre (out-TypeSpec (out-TypeName to).spec) o)) a_type old mid base words passes walked in
        let stopped = stopped_of (Says abi (λ o. SizesAre (out-TypeName to).sizes o)) (some_sizes sizes) mid new first counts stops behind_it in
        record {
          grows = grows_trans old mid new passed.grows stopped.grows;
          found = λ n agrees. SizesRefused refl refl (passed.found n (agrees_before mid new n stopped.grows agrees)) (stopped.found n agrees);
        }

    -- its words have a type of the context behind its sizes
    pub base_below : words ≡ FoundToPass base → counts ≡ FoundToPass tt
        → Walked (Says abi (λ o. WordsAre (out-TypeSpec (out-TypeName to).spec) o)) a_type old mid words
        → Walked (Says abi (λ o. SizesAre (out-TypeName to).sizes o)) (some_sizes sizes) mid new counts
        → base.ctype < length new.types
    base_below passes goes walked behind_it =
        let passed = passed_of (Says abi (λ o. WordsAre (out-TypeSpec (out-TypeName to).spec) o)) a_type old mid base words passes walked in
        let counted = passed_of (Says abi (λ o. SizesAre (out-TypeName to).sizes o)) (some_sizes sizes) mid new tt counts goes behind_it in
        below_grows mid new counted.grows base.ctype passed.below

    -- the whole
    pub type_named : (later : Context) (named : NamedByNumber) → words ≡ FoundToPass base → counts ≡ FoundToPass tt
        → Walked (Says abi (λ o. WordsAre (out-TypeSpec (out-TypeName to).spec) o)) a_type old mid words
        → Walked (Says abi (λ o. SizesAre (out-TypeName to).sizes o)) (some_sizes sizes) mid new counts
        → IsDeclared abi base (out-TypeName to).stars sizes new later named
        → Passed (Says abi (λ o. NameOfTypeIs to o)) a_type old later named
    type_named later named passes goes walked behind_it declares =
        let passed = passed_of (Says abi (λ o. WordsAre (out-TypeSpec (out-TypeName to).spec) o)) a_type old mid base words passes walked in
        let counted = passed_of (Says abi (λ o. SizesAre (out-TypeName to).sizes o)) (some_sizes sizes) mid new tt counts goes behind_it in
        let only = declares.only_types in
        let meant : Numbering → NamedType = λ n. declared_as (named_at n base) (out-TypeName to).stars sizes (is_large abi new.structs (declared_type (named_at n base) (out-TypeName to).stars sizes)) in
        record {
          rows = passed.rows ++ counted.rows;
          handed = only.handed ∙ handed_behind old.handed mid.handed new.handed passed.rows counted.rows passed.handed counted.handed;
          grows = grows_trans old mid later passed.grows (grows_trans mid new later counted.grows (only_types_grows new later only));
          below = declares.below;
          found = λ n agrees.
              let here : Agrees n new = agrees_before new later n (only_types_grows new later only) agrees in
              let there : Agrees n mid = agrees_before mid new n counted.grows here in
              let found : Finds (language abi n) (declared old) (NameOfTypeIs to (Passes (meant n) (map (handed_at n) passed.rows ++ map (handed_at n) counted.rows))) (declared new) =
              TypeNamed refl refl (passed.found n there) (counted.found n here) refl in
              let same : declared new ≡ declared later = λ i. record { environment = sym only.environment i; structs = sym only.structs i } in
              subst (λ (t : NamedType). Finds (language abi n) (declared old) (NameOfTypeIs to (Passes t (map (handed_at n) (passed.rows ++ counted.rows)))) (declared later)) (sym (declares.meant n agrees))
              (subst (λ (handed : List Handed). Finds (language abi n) (declared old) (NameOfTypeIs to (Passes (meant n) handed)) (declared later)) (sym (map-append (handed_at n) passed.rows counted.rows))
              (subst (λ (place : Declared). Finds (language abi n) (declared old) (NameOfTypeIs to (Passes (meant n) (map (handed_at n) passed.rows ++ map (handed_at n) counted.rows))) place) same found));
        }

-- what is declared, where it is, and of sizes that code calls otherwise
pub declares_now : (abi : Abi) (base : NamedByNumber) (stars : ℕ) (sizes other : List Size) (new later : Context) (named : NamedByNumber) (r : Result NamedByNumber NoMemory)
    → r ≡ Ok named → other ≡ sizes → IfOk r (λ one. IsDeclared abi base stars other new later one) → IsDeclared abi base stars sizes new later named
declares_now abi base stars sizes other new later named r is same declares =
    subst (λ (these : List Size). IsDeclared abi base stars these new later named) same
    (subst (λ (result : Result NamedByNumber NoMemory). IfOk result (λ one. IsDeclared abi base stars other new later one)) is declares)
