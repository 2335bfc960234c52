-- Parameters that are declared anew as those of `main`, one behind the other.
use Rattle.std.proofs.Common.{◌≡◌, ◌<◌, ◌≤◌, ◌+◌, ◌⊎◌, ℕ, suc, Bool, true, false, List, [], ◌∷◌, map, drop, length, get_or, All, refl, sym, ap, ◌∙◌, arith, inl, inr, Option, None, Some}
use Rattle.std.proofs.lemmas.List.{drop_all}
use Rattle.cbase.specs.declared.abi.Abi.{Abi}
use Rattle.cbase.specs.declared.tree.decl.Param.{Param}
use Rattle.cbase.specs.declared.tree.expr.ExprForm.TheViews.{out-Param}
use Rattle.cbase.specs.declared.tree.identifier.Identifier.{Identifier}
use Rattle.typing.specs.declared.environment.entity.DeclaredType.TheVariants.{Whole}
use Rattle.typing.specs.declared.environment.entity.Entity.TheVariants.{Object}
use Rattle.typing.specs.declared.environment.entity.Lifetime.TheVariants.{MainParameter}
use Rattle.typing.specs.environment.Linkage.{own_declared}
use Rattle.typing.specs.Heads.{names_of, marked_one as marked_one_in, marked as marked_in, marked_if as marked_if_in}
use Rattle.expressions.specs.Context.{Context, Declared, declared, Agrees}
use Rattle.expressions.specs.FileScope.{file_scope}
use Rattle.expressions.specs.Language.{language}
use Rattle.expressions.specs.Numbers.{Numbering}
use Rattle.expressions.proofs.Growth.{number_back}
use Rattle.expressions.proofs.Loops.{next_item}
use Rattle.items.specs.declared.parameters.parameter.Parameter.{Parameter as ParameterByNumber}
use Rattle.items.specs.parameters.Parameters.{parameter_at}
use Rattle.items.specs.Heads.{marked_one, marked, marked_if}

-- the same types, structs, rows and signatures
pub record Alike (old new : Context) : Type 0 where
  pub types : new.types ≡ old.types
  pub structs : new.structs ≡ old.structs
  pub handed : new.handed ≡ old.handed
  pub signatures : new.environment.signatures ≡ old.environment.signatures

alike_same : (context : Context) → Alike context context
alike_same context = record { types = refl; structs = refl; handed = refl; signatures = refl }

alike_trans : (old mid new : Context) → Alike old mid → Alike mid new → Alike old new
alike_trans old mid new first second = record {
  types = second.types ∙ first.types;
  structs = second.structs ∙ first.structs;
  handed = second.handed ∙ first.handed;
  signatures = second.signatures ∙ first.signatures;
}

one_alike : (name : Option Identifier) (ctype : ℕ) (before : Context) → Alike before (marked_one name ctype before)
one_alike None ctype before = alike_same before
one_alike (Some name) ctype before = record { types = refl; structs = refl; handed = refl; signatures = refl }

marked_alike : (names : List (Option Identifier)) (params : List ParameterByNumber) (before : Context) → Alike before (marked names params before)
marked_alike [] params before = alike_same before
marked_alike (name ∷ names) [] before = alike_same before
marked_alike (name ∷ names) (param ∷ params) before =
    alike_trans before (marked_one name param.ctype before) (marked names params (marked_one name param.ctype before))
    (one_alike name param.ctype before) (marked_alike names params (marked_one name param.ctype before))

pub if_alike : (main : Bool) (names : List (Option Identifier)) (params : List ParameterByNumber) (before : Context) → Alike before (marked_if main names params before)
if_alike true names params before = marked_alike names params before
if_alike false names params before = alike_same before

-- what a language says of it
module _ (abi : Abi) (n : Numbering) (context : Context) (agrees : Agrees n context) where
  one_declared : (name : Option Identifier) (ctype : ℕ) (before : Context) → ctype < length context.types
      → declared (marked_one name ctype before) ≡ marked_one_in (language abi n) (file_scope abi n) name (n.ctype ctype) (declared before)
  one_declared None ctype before below = refl
  one_declared (Some name) ctype before below =
      let back : n.number (n.ctype ctype) ≡ ctype = number_back n context ctype agrees below in
      λ i. record { environment = own_declared name.name (Object (Whole (sym back i)) name.place.at MainParameter true) before.environment; structs = before.structs }

  marked_declared : (names : List (Option Identifier)) (params : List ParameterByNumber) (before : Context) → All (λ param. param.ctype < length context.types) params
      → declared (marked names params before) ≡ marked_in (language abi n) (file_scope abi n) names (map (parameter_at n) params) (declared before)
  marked_declared [] params before below = refl
  marked_declared (name ∷ names) [] before below = refl
  marked_declared (name ∷ names) (param ∷ params) before below =
      let inside : 0 < length (param ∷ params) = omega arith in
      let first : param.ctype < length context.types = below 0 param inside in
      let rest : All (λ one. one.ctype < length context.types) params = λ at default within. below (suc at) default (omega (arith, within)) in
      marked_declared names params (marked_one name param.ctype before) rest
      ∙ ap (λ (env : Declared). marked_in (language abi n) (file_scope abi n) names (map (parameter_at n) params) env) (one_declared name param.ctype before first)

  pub if_declared : (main : Bool) (names : List (Option Identifier)) (params : List ParameterByNumber) (before : Context) → All (λ param. param.ctype < length context.types) params
      → declared (marked_if main names params before) ≡ marked_if_in (language abi n) (file_scope abi n) main names (map (parameter_at n) params) (declared before)
  if_declared true names params before below = marked_declared names params before below
  if_declared false names params before below = refl

marked_none : (names : List (Option Identifier)) (before : Context) → marked names [] before ≡ before
marked_none [] before = refl
marked_none (name ∷ names) before = refl

-- parameters of which so many are marked: what the rest makes is what all make
module _ (params : List Param) (kept : List ParameterByNumber) (old : Context) where
  abbrev pub Marks : Context → ℕ → Type 0
  Marks now at = marked (names_of (drop at params)) (drop at kept) now ≡ marked (names_of params) kept old

  pub marks_types : (now : Context) (at : ℕ) → Marks now at → now.types ≡ old.types
  marks_types now at so_far =
      sym (marked_alike (names_of (drop at params)) (drop at kept) now).types
      ∙ (ap (λ (c : Context). c.types) so_far ∙ (marked_alike (names_of params) kept old).types)

  pub marks_below : (now : Context) (at : ℕ) (past : ParameterByNumber) → at < length kept → All (λ one. one.ctype < length old.types) kept → Marks now at
      → (get_or kept at past).ctype < length now.types
  marks_below now at past within below so_far =
      let there : (get_or kept at past).ctype < length old.types = below at past within in
      let same : length now.types ≡ length old.types = ap length (marks_types now at so_far) in
      omega (arith, there, same)

  pub marks_next : (now later : Context) (at : ℕ) (param : Param) (one : ParameterByNumber) → at < length params → at < length kept
      → param ≡ get_or params at param → one ≡ get_or kept at one → later ≡ marked_one (out-Param param).name one.ctype now → Marks now at → Marks later (at + 1)
  marks_next now later at param one within inside is are declares so_far =
      let first : drop at params ≡ param ∷ drop (at + 1) params = next_item params at param within is in
      let second : drop at kept ≡ one ∷ drop (at + 1) kept = next_item kept at one inside are in
      let step : marked (names_of (drop at params)) (drop at kept) now ≡ marked (names_of (drop (at + 1) params)) (drop (at + 1) kept) (marked_one (out-Param param).name one.ctype now) =
      λ i. marked (names_of (first i)) (second i) now in
      ap (λ (c : Context). marked (names_of (drop (at + 1) params)) (drop (at + 1) kept) c) declares ∙ (sym step ∙ so_far)

  pub marks_end : (now : Context) (at count : ℕ) → count ≤ at → (count ≡ length params) ⊎ (count ≡ length kept) → Marks now at → now ≡ marked (names_of params) kept old
  marks_end now at count past (inl whole) so_far =
      let none : drop at params ≡ [] = drop_all at params (omega (arith, past, whole)) in
      sym (ap (λ (rest : List Param). marked (names_of rest) (drop at kept) now) none) ∙ so_far
  marks_end now at count past (inr whole) so_far =
      let none : drop at kept ≡ [] = drop_all at kept (omega (arith, past, whole)) in
      sym (ap (λ (rest : List ParameterByNumber). marked (names_of (drop at params)) rest now) none ∙ marked_none (names_of (drop at params)) now) ∙ so_far
