-- What is asked of each argument that stands at a parameter, in a loop over both.
use Rattle.std.proofs.Common.{◌≡◌, ℕ, suc, ◌+◌, min, false, ◌<◌, ◌≤◌, ◌⊎◌, inl, inr, List, [], ◌∷◌, ◌++◌, length, get_or, drop, map, Option, None, sym, subst, arith, add-one}
use Rattle.std.proofs.lemmas.Bool.{cases_lt}
use Rattle.std.proofs.lemmas.List.{drop_more, drop_all}
use Rattle.cbase.specs.declared.structs.StructDef.{StructDef}
use Rattle.cbase.specs.declared.tree.expr.Expr.{Expr}
use Rattle.typing.specs.ctypes.Kinds.{Kind, kind_of}
use Rattle.typing.specs.Calls.{Argument}
use Rattle.typing.specs.declared.fault.Fault.{Fault}
use Rattle.typing.specs.Known.{operand}
use Rattle.expressions.specs.Arguments.{arguments_at}
use Rattle.expressions.specs.declared.known.Known.{Known as KnownByNumber}
use Rattle.expressions.specs.Numbers.{Numbering, known_at}
use Rattle.expressions.specs.Settled.{IsFirstOf}
use Rattle.expressions.proofs.SoFar.{FirstSoFar, one_further, all_so_far}
use Rattle.typing.specs.declared.idiom.Idiom.TheVariants.{Outside}

abbrev pub kinds_at : Numbering → List StructDef → List ℕ → List Kind
kinds_at n structs params = map (kind_of structs) (map n.ctype params)

abbrev pub argument_at : Numbering → List StructDef → Expr → KnownByNumber → Argument
argument_at n structs expr one = record { place = expr.place; operand = operand structs (known_at n one); value = one.value }

-- what stands past the last one that is known
abbrev pub past_known : KnownByNumber
past_known = record { ctype = 0; lvalue = false; null = false; value = None; idiom = Outside; stands = None }

-- the rest of what is asked, where so many arguments are looked at
abbrev pub rest_at : (ℕ → List Kind → List Argument → List Fault) → Numbering → List StructDef → List ℕ → List Expr → List KnownByNumber → ℕ → List Fault
rest_at R n structs params args known at = R at (kinds_at n structs (drop at params)) (arguments_at n structs (drop at args) (drop at known))

module _ (R : ℕ → List Kind → List Argument → List Fault) (here : ℕ → Kind → Argument → List Fault)
    (more : (at : ℕ) (param : Kind) (params : List Kind) (arg : Argument) (args : List Argument) → R at (param ∷ params) (arg ∷ args) ≡ here at param arg ++ R (suc at) params args) where
  pub rest_more : (n : Numbering) (structs : List StructDef) (params : List ℕ) (args : List Expr) (known : List KnownByNumber) (at : ℕ)
      (param : ℕ) (arg : Expr) (one : KnownByNumber)
      → drop at params ≡ param ∷ drop (at + 1) params → drop at args ≡ arg ∷ drop (at + 1) args → drop at known ≡ one ∷ drop (at + 1) known
      → rest_at R n structs params args known at ≡ here at (kind_of structs (n.ctype param)) (argument_at n structs arg one) ++ rest_at R n structs params args known (at + 1)
  rest_more n structs params args known at param arg one p a k =
      subst (λ (ps : List ℕ). R at (kinds_at n structs ps) (arguments_at n structs (drop at args) (drop at known)) ≡ here at (kind_of structs (n.ctype param)) (argument_at n structs arg one) ++ rest_at R n structs params args known (at + 1)) (sym p)
      (subst (λ (exprs : List Expr). R at (kinds_at n structs (param ∷ drop (at + 1) params)) (arguments_at n structs exprs (drop at known)) ≡ here at (kind_of structs (n.ctype param)) (argument_at n structs arg one) ++ rest_at R n structs params args known (at + 1)) (sym a)
      (subst (λ (ks : List KnownByNumber). R at (kinds_at n structs (param ∷ drop (at + 1) params)) (arguments_at n structs (arg ∷ drop (at + 1) args) ks) ≡ here at (kind_of structs (n.ctype param)) (argument_at n structs arg one) ++ rest_at R n structs params args known (at + 1)) (sym k)
      (subst (λ (next : ℕ). R at (kinds_at n structs (param ∷ drop (at + 1) params)) (arguments_at n structs (arg ∷ drop (at + 1) args) (one ∷ drop (at + 1) known)) ≡ here at (kind_of structs (n.ctype param)) (argument_at n structs arg one) ++ R next (kinds_at n structs (drop (at + 1) params)) (arguments_at n structs (drop (at + 1) args) (drop (at + 1) known))) (sym (add-one at))
      (more at (kind_of structs (n.ctype param)) (kinds_at n structs (drop (at + 1) params)) (argument_at n structs arg one) (arguments_at n structs (drop (at + 1) args) (drop (at + 1) known))))))

  pub next_asked : (n : Numbering) (structs : List StructDef) (params : List ℕ) (args : List Expr) (known : List KnownByNumber) (at : ℕ) (past : Expr)
      (whole : List Fault) (first found result : Option Fault)
      → at < length params → at < length args → length known ≡ length args
      → FirstSoFar whole (rest_at R n structs params args known at) first
      → IsFirstOf (here at (kind_of structs (n.ctype (get_or params at 0))) (argument_at n structs (get_or args at past) (get_or known at past_known))) found
      → ((some further : List Fault) → IsFirstOf some first → IsFirstOf further found → IsFirstOf (some ++ further) result)
      → FirstSoFar whole (rest_at R n structs params args known (at + 1)) result
  next_asked n structs params args known at past whole first found result p a count before is joins =
      one_further whole (rest_at R n structs params args known at) _ (rest_at R n structs params args known (at + 1)) first found result before
      (rest_more n structs params args known at _ _ _ (drop_more params at 0 p) (drop_more args at past a) (drop_more known at past_known (omega (arith, a, count))))
      is joins

module _ (R : ℕ → List Kind → List Argument → List Fault)
    (no_params : (at : ℕ) (args : List Argument) → R at [] args ≡ [])
    (no_args : (at : ℕ) (param : Kind) (params : List Kind) → R at (param ∷ params) [] ≡ []) where
  pub rest_end : (n : Numbering) (structs : List StructDef) (params : List ℕ) (args : List Expr) (known : List KnownByNumber) (at : ℕ)
      → (length params ≤ at) ⊎ (length args ≤ at) → rest_at R n structs params args known at ≡ []
  rest_end n structs params args known at (inl end) =
      subst (λ (ps : List ℕ). R at (kinds_at n structs ps) (arguments_at n structs (drop at args) (drop at known)) ≡ []) (sym (drop_all at params end))
      (no_params at (arguments_at n structs (drop at args) (drop at known)))
  rest_end n structs params args known at (inr end) =
      subst (λ (exprs : List Expr). R at (kinds_at n structs (drop at params)) (arguments_at n structs exprs (drop at known)) ≡ []) (sym (drop_all at args end))
      (nothing_asked (kinds_at n structs (drop at params)))
    where
      nothing_asked : (params : List Kind) → R at params [] ≡ []
      nothing_asked [] = no_params at []
      nothing_asked (param ∷ params) = no_args at param params

  pub all_asked : (n : Numbering) (structs : List StructDef) (params : List ℕ) (args : List Expr) (known : List KnownByNumber) (at : ℕ)
      (whole : List Fault) (first : Option Fault) → min (length params) (length args) ≤ at → FirstSoFar whole (rest_at R n structs params args known at) first
      → IsFirstOf whole first
  all_asked n structs params args known at whole first end before =
      all_so_far whole (rest_at R n structs params args known at) first before
      (rest_end n structs params args known at (elim (cases_lt at (length params)) as (λ e. (length params ≤ at) ⊎ (length args ≤ at)) [ inl lt ↦ inr (omega arith) | inr ge ↦ inl ge ]))
