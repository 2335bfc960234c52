-- The kinds of parameters and the functions that are called, for each program that the context stands for.
use Rattle.std.proofs.Common.{◌≡◌, ℕ, zero, suc, min, drop, ◌+◌, ◌≤◌, Bool, true, false, not, ◌&&◌, nat_eq, List, [], ◌∷◌, ◌++◌, length, map, take, Option, None, Some, add-one, refl, sym, ap, subst, ◌∙◌, arith, if◌then◌else◌}
use Rattle.std.specs.Prelude.{option_and_then, slice_get}
use Rattle.std.specs.List.{list_all}
use Rattle.std.proofs.Math.Bool.{and_assoc}
use Rattle.cbase.specs.declared.ctype.CType.{CType}
use Rattle.expressions.specs.Context.{Context}
use Rattle.expressions.specs.Numbers.{Numbering}
use Rattle.typing.specs.Outcomes.{ParameterRow}
use Rattle.c_machine.specs.declared.kind.Kind.{Kind}
use Rattle.c_machine.specs.declared.object.Object.{Object}
use Rattle.c_machine.specs.Program.{Program, FunctionItem, functions_in, parameters_in, result_in}
use Rattle.c_machine.specs.Text.{BodyStands, Parameter}
use Rattle.c_machine.specs.Trees.{function_as, kind_in, parameter_of}
use Rattle.c_text.specs.declared.parameters.Parameters.{Parameters}
use Rattle.c_text.specs.Functions.{parameter_object}
use Rattle.c_text.specs.Kept.{is_sized, kept, kept_objects}
use Rattle.c_text.specs.Parameters.{types_by}
use Rattle.c_text.specs.Stands.{StandsFor}
use Rattle.lowering.specs.declared.called.Called.{Called}
use Rattle.lowering.specs.declared.called.Called.TheVariants.{Body}
use Rattle.lowering.specs.Calls.{AreFirstKinds, AreParameterKinds, Calls, IsDefinedCalled, IsNumberedCalled, are_sized_as}
use Rattle.lowering.specs.Kinds.{is_void, width}
use Rattle.lowering.specs.Source.{Source}
use Rattle.lowering.specs.Table.{are_sized}
use Rattle.lowering.proofs.Sources.{kept_is}

-- parameters one by one
map_take : {A B : Type 0} (f : A → B) (xs : List A) (at : ℕ) (x : A) → slice_get xs at ≡ Some x → map f (take (suc at) xs) ≡ map f (take at xs) ++ f x ∷ []
map_take f [] at x found = absurd cc
map_take f (first ∷ rest) zero x found = ap (λ y. f y ∷ []) (some_same first x found)
  where
    some_same : {A : Type 0} (one other : A) → Some one ≡ Some other → one ≡ other
    some_same one other same = cc
map_take f (first ∷ rest) (suc at) x found = ap (λ ys. f first ∷ ys) (map_take f rest at x found)

pub one_kind_more : (context own : Context) (params : Parameters) (at : ℕ) (kinds : List Kind) (kind : Kind) (more : List Kind) → own ≡ context →
    AreFirstKinds context params at kinds →
    ((n : Numbering) (p : Program) → StandsFor n own p → Some kind ≡ option_and_then (λ t. kept (kind_in p t)) (slice_get (types_by n p params) at)) →
    more ≡ kinds ++ kind ∷ [] → AreFirstKinds context params (at + 1) more
one_kind_more context own params at kinds kind more same are is pushed = record {
  of = λ n p stands.
      pushed ∙ ap (λ (kinds : List Kind). kinds ++ kind ∷ []) (are.of n p stands)
      ∙ by_type n p (slice_get (types_by n p params) at) refl (is n p (subst (λ (context : Context). StandsFor n context p) (sym same) stands))
      ∙ ap (λ (count : ℕ). map (kind_in p) (take count (types_by n p params))) (sym (add-one at));
}
  where
    by_type : (n : Numbering) (p : Program) (found : Option CType) → slice_get (types_by n p params) at ≡ found → Some kind ≡ option_and_then (λ t. kept (kind_in p t)) found →
        map (kind_in p) (take at (types_by n p params)) ++ kind ∷ [] ≡ map (kind_in p) (take (suc at) (types_by n p params))
    by_type n p None found told = absurd cc
    by_type n p (Some t) found told =
        ap (λ (kind : Kind). map (kind_in p) (take at (types_by n p params)) ++ kind ∷ []) (kept_is (kind_in p t) kind told)
        ∙ sym (map_take (kind_in p) (types_by n p params) at t found)

-- one that has a body
sized_as : (p : Program) (rows : List ParameterRow) → are_sized_as (map (λ (row : ParameterRow). kind_in p row.ctype) rows) (map (parameter_object p) rows) ≡ are_sized (map (parameter_of p) rows)
sized_as p [] = refl
sized_as p (row ∷ rows) =
    ap (λ (rest : Bool). (not (is_void (kind_in p row.ctype)) && nat_eq (width (kind_in p row.ctype)) (parameter_object p row).bytes) && rest) (sized_as p rows)
    ∙ and_assoc (not (is_void (kind_in p row.ctype))) (nat_eq (width (kind_in p row.ctype)) (parameter_object p row).bytes) (are_sized (map (parameter_of p) rows))

kinds_as : (p : Program) (rows : List ParameterRow) → map (kind_in p) (map (λ (row : ParameterRow). row.ctype) rows) ≡ map (λ (row : ParameterRow). kind_in p row.ctype) rows
kinds_as p [] = refl
kinds_as p (row ∷ rows) = ap (λ (kinds : List Kind). kind_in p row.ctype ∷ kinds) (kinds_as p rows)

params_as : (p : Program) (rows : List ParameterRow) → map (λ (row : ParameterRow). kind_in p row.ctype) rows ≡ map (λ (param : Parameter). param.kind) (map (parameter_of p) rows)
params_as p [] = refl
params_as p (row ∷ rows) = ap (λ (kinds : List Kind). kind_in p row.ctype ∷ kinds) (params_as p rows)

kept_all : (objects own : List Object) → Some objects ≡ kept_objects own → objects ≡ own
kept_all objects own is = by_sized (list_all is_sized own) is
  where
    by_sized : (fits : Bool) → Some objects ≡ (if fits then Some own else None) → objects ≡ own
    by_sized true is = cc
    by_sized false is = absurd cc

pub defined_is : (context own : Context) (number token : ℕ) (params : Parameters) (kinds : List Kind) (objects : List Object) (sized : Bool) (made : Kind) → own ≡ context →
    AreParameterKinds context params kinds →
    ((n : Numbering) (p : Program) → StandsFor n own p → types_by n p params ≡ map (λ (row : ParameterRow). row.ctype) (parameters_in p.handed token)) →
    ((n : Numbering) (p : Program) → StandsFor n own p → Some objects ≡ kept_objects (map (parameter_object p) (parameters_in p.handed token))) →
    sized ≡ are_sized_as kinds objects →
    ((n : Numbering) (p : Program) → StandsFor n own p → Some made ≡ kept (kind_in p (result_in p.handed token))) →
    IsDefinedCalled context number token (Body number kinds sized made)
defined_is context own number token params kinds objects sized made same are types there sized_is is = record {
  of = λ p function reads token_is.
      let stands : StandsFor reads.0 own p = subst (λ (context : Context). StandsFor reads.0 context p) (sym same) reads.1 in
      let rows : List ParameterRow = parameters_in p.handed token in
      let kinds_are : kinds ≡ map (λ (row : ParameterRow). kind_in p row.ctype) rows = are.of reads.0 p reads.1 ∙ ap (map (kind_in p)) (types reads.0 p stands) ∙ kinds_as p rows in
      let sized_rows : sized ≡ are_sized (map (parameter_of p) rows) =
      sized_is ∙ (λ i. are_sized_as (kinds_are i) (kept_all objects (map (parameter_object p) rows) (there reads.0 p stands) i)) ∙ sized_as p rows in
      let made_is : made ≡ kind_in p (result_in p.handed token) = kept_is (kind_in p (result_in p.handed token)) made (is reads.0 p stands) in
      (λ i. Body number ((kinds_are ∙ params_as p rows) i) (sized_rows i) (made_is i))
      ∙ ap (λ (token : ℕ). Body number (map (λ (param : Parameter). param.kind) (map (parameter_of p) (parameters_in p.handed token))) (are_sized (map (parameter_of p) (parameters_in p.handed token)))
      (kind_in p (result_in p.handed token))) (sym token_is);
}

-- the function of a number
get_map : {A B : Type 0} (f : A → B) (xs : List A) (at : ℕ) (x : A) → slice_get xs at ≡ Some x → slice_get (map f xs) at ≡ Some (f x)
get_map f [] at x found = absurd cc
get_map f (first ∷ rest) zero x found = ap (λ y. Some (f y)) (some_same first x found)
  where
    some_same : {A : Type 0} (one other : A) → Some one ≡ Some other → one ≡ other
    some_same one other same = cc
get_map f (first ∷ rest) (suc at) x found = get_map f rest at x found

pub numbered_is : (source : Source) (number token : ℕ) (function : FunctionItem) (called : Called) → slice_get source.functions number ≡ Some function → function.token ≡ token →
    IsDefinedCalled source.context number token called → IsNumberedCalled source number called
numbered_is source number token function called found token_is defined = record {
  of = λ p is.
      subst (λ (called : Called). Calls p called (BodyStands number)) (sym (defined.of p function is.reads token_is)) (
        function_as p function,
        refl,
        get_map (function_as p) (functions_in p.items) number function (subst (λ (functions : List FunctionItem). slice_get functions number ≡ Some function) is.functions found),
        refl,
        refl,
        refl,
      );
}

-- behind the last of them nothing is left
pub sized_end : (kinds : List Kind) (objects : List Object) (at : ℕ) → min (length kinds) (length objects) ≤ at → true ≡ are_sized_as (drop at kinds) (drop at objects)
sized_end [] objects zero past = refl
sized_end [] objects (suc at) past = refl
sized_end (kind ∷ kinds) [] zero past = refl
sized_end (kind ∷ kinds) [] (suc at) past = by_kinds (drop at kinds)
  where
    by_kinds : (kinds : List Kind) → true ≡ are_sized_as kinds []
    by_kinds [] = refl
    by_kinds (kind ∷ kinds) = refl
sized_end (kind ∷ kinds) (object ∷ objects) zero past = absurd (none (length kinds) (length objects) past)
  where
    none : (a b : ℕ) → min (suc a) (suc b) ≤ 0 → ⊥
    none a b past = omega (arith, past)
sized_end (kind ∷ kinds) (object ∷ objects) (suc at) past = sized_end kinds objects at (less (length kinds) (length objects) at past)
  where
    less : (a b at : ℕ) → min (suc a) (suc b) ≤ suc at → min a b ≤ at
    less a b at past = omega (arith, past)
