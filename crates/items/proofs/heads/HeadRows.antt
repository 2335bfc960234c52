-- What is handed on of a function that is defined and of its parameters, one behind the other.
use Rattle.std.proofs.Common.{◌≡◌, ◌<◌, ◌≤◌, ◌+◌, ◌⊎◌, ℕ, Bool, true, false, List, [], ◌∷◌, ◌++◌, map, drop, length, get_or, refl, sym, ap, ◌∙◌, arith, inl, inr, Option, append-nil}
use Rattle.std.specs.Prelude.{option_map}
use Rattle.std.proofs.lemmas.List.{append_assoc, drop_all}
use Rattle.cbase.specs.declared.tree.decl.Declared.{Declared as DeclaredName}
use Rattle.cbase.specs.declared.tree.decl.Param.{Param}
use Rattle.cbase.specs.declared.tree.expr.ExprForm.TheViews.{out-Declared, out-Param}
use Rattle.cbase.specs.declared.tree.identifier.Identifier.{Identifier}
use Rattle.typing.specs.Heads.{head_rows, names_in, names_of, parameter_rows, result_of}
use Rattle.typing.specs.NamedTypes.{NamedType}
use Rattle.typing.specs.Outcomes.{Handed, FunctionHanded, ParameterHanded}
use Rattle.expressions.specs.declared.handed_row.HandedRow.{HandedRow}
use Rattle.expressions.specs.declared.handed_row.HandedRow.TheVariants.{Parameter as ParameterRow}
use Rattle.expressions.specs.Context.{Context}
use Rattle.expressions.specs.Numbers.{Numbering, handed_at}
use Rattle.expressions.proofs.Loops.{next_item}
use Rattle.items.specs.declared.parameters.parameter.Parameter.{Parameter as ParameterByNumber}
use Rattle.items.specs.parameters.Parameters.{parameter_at}
use Rattle.items.specs.Heads.{rows_if_bodied, rows_of_parameters}

-- what the rows mean
each_meant : (n : Numbering) (names : List (Option Identifier)) (params : List ParameterByNumber) → map (handed_at n) (rows_of_parameters names params) ≡ parameter_rows names (map (parameter_at n) params)
each_meant n [] params = refl
each_meant n (name ∷ names) [] = refl
each_meant n (name ∷ names) (param ∷ params) =
    ap (λ (rows : List Handed). ParameterHanded (record { token = option_map (λ declared. declared.place.at) name; ctype = n.ctype param.ctype }) ∷ rows) (each_meant n names params)

pub rows_meant : (n : Numbering) (bodied : Bool) (base : NamedType) (name : DeclaredName) (params : List ParameterByNumber) (result : ℕ) → n.ctype result ≡ result_of base (out-Declared name)
    → map (handed_at n) (rows_if_bodied bodied result name params) ≡ head_rows bodied base (out-Declared name) (names_in (out-Declared name)) (map (parameter_at n) params)
rows_meant n false base name params result meant = refl
rows_meant n true base name params result meant =
    λ i. FunctionHanded (record { token = (out-Declared name).place.at; result = meant i }) ∷ each_meant n (names_in (out-Declared name)) params i

rows_none : (names : List (Option Identifier)) → rows_of_parameters names [] ≡ []
rows_none [] = refl
rows_none (name ∷ names) = refl

-- parameters of which so many are handed on: with the rows of the rest these are those of all
abbrev with_rows : List HandedRow → Context → Context
with_rows rows context = record context { handed = context.handed ++ rows }

with_none : (context : Context) → with_rows [] context ≡ context
with_none context = ap (λ (rows : List HandedRow). record context { handed = rows }) (append-nil context.handed)

module _ (params : List Param) (kept : List ParameterByNumber) (old : Context) where
  abbrev pub Hands : Context → ℕ → Type 0
  Hands now at = record now { handed = now.handed ++ rows_of_parameters (names_of (drop at params)) (drop at kept) } ≡ record old { handed = old.handed ++ rows_of_parameters (names_of params) kept }

  pub hands_next : (now later : Context) (at number : ℕ) (token : Option ℕ) (param : Param) (one : ParameterByNumber) → at < length params → at < length kept
      → param ≡ get_or params at param → one ≡ get_or kept at one → token ≡ option_map (λ declared. declared.place.at) (out-Param param).name → number ≡ one.ctype
      → later ≡ record now { handed = now.handed ++ ParameterRow token number ∷ [] } → Hands now at → Hands later (at + 1)
  hands_next now later at number token param one within inside is are placed numbered declares so_far =
      let first : drop at params ≡ param ∷ drop (at + 1) params = next_item params at param within is in
      let second : drop at kept ≡ one ∷ drop (at + 1) kept = next_item kept at one inside are in
      let rest = rows_of_parameters (names_of (drop (at + 1) params)) (drop (at + 1) kept) in
      let row = ParameterRow (option_map (λ declared. declared.place.at) (out-Param param).name) one.ctype in
      let known : later ≡ with_rows (row ∷ []) now = declares ∙ (λ i. with_rows (ParameterRow (placed i) (numbered i) ∷ []) now) in
      let joined : with_rows rest (with_rows (row ∷ []) now) ≡ with_rows (row ∷ rest) now =
      ap (λ (rows : List HandedRow). record now { handed = rows }) (append_assoc now.handed (row ∷ []) rest) in
      let step : with_rows (rows_of_parameters (names_of (drop at params)) (drop at kept)) now ≡ with_rows (row ∷ rest) now =
      λ i. with_rows (rows_of_parameters (names_of (first i)) (second i)) now in
      ap (with_rows rest) known ∙ (joined ∙ (sym step ∙ so_far))

  pub hands_end : (now : Context) (at count : ℕ) → count ≤ at → (count ≡ length params) ⊎ (count ≡ length kept) → Hands now at
      → now ≡ record old { handed = old.handed ++ rows_of_parameters (names_of params) kept }
  hands_end now at count past (inl whole) so_far =
      let none : drop at params ≡ [] = drop_all at params (omega (arith, past, whole)) in
      sym (ap (λ (rest : List Param). with_rows (rows_of_parameters (names_of rest) (drop at kept)) now) none ∙ with_none now) ∙ so_far
  hands_end now at count past (inr whole) so_far =
      let none : drop at kept ≡ [] = drop_all at kept (omega (arith, past, whole)) in
      let empty : rows_of_parameters (names_of (drop at params)) (drop at kept) ≡ [] =
      ap (λ (rest : List ParameterByNumber). rows_of_parameters (names_of (drop at params)) rest) none ∙ rows_none (names_of (drop at params)) in
      sym (ap (λ (rows : List HandedRow). with_rows rows now) empty ∙ with_none now) ∙ so_far
