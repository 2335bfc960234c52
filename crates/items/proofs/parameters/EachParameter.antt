-- What is broken at the names of parameters, from the last to the first.
use Rattle.std.proofs.Common.{◌≡◌, ◌<◌, ◌≤◌, ◌+◌, ◌-◌, ◌++◌, ℕ, zero, suc, List, [], ◌∷◌, map, drop, length, get_or, refl, sym, ap, subst, ◌∙◌, arith, Option}
use Rattle.typing.specs.declared.fault.Fault.{Fault}
use Rattle.typing.specs.Declarations.{faults_of_all}
use Rattle.expressions.specs.Numbers.{Numbering}
use Rattle.expressions.specs.Settled.{IsFirstOf}
use Rattle.expressions.proofs.Loops.{next_item}
use Rattle.items.specs.declared.parameters.parameter.Parameter.{Parameter as ParameterByNumber}
use Rattle.items.specs.parameters.Parameters.{faults_at, parameter_at}

-- an item that is there is the same whatever stands for one that is not
item_there : {A : Type 0} (items : List A) (at : ℕ) (past other : A) → at < length items → get_or items at past ≡ get_or items at other
item_there [] at past other within = absurd (omega (arith, within))
item_there (first ∷ items) zero past other within = refl
item_there (first ∷ items) (suc at) past other within = item_there items at past other (omega (arith, within))

module _ (params : List ParameterByNumber) (left : ℕ) (past : ParameterByNumber) (some : 0 < left) (inside : left ≤ length params) where
  abbrev here : ParameterByNumber
  here = get_or params (left - 1) past

  -- one more in front of those that were looked at
  from_back : drop (left - 1) params ≡ here ∷ drop left params
  from_back =
      let within : left - 1 < length params = omega (arith, some, inside) in
      let same : (left - 1) + 1 ≡ left = omega (arith, some) in
      next_item params (left - 1) here within (item_there params (left - 1) past here within) ∙ ap (λ (at : ℕ). here ∷ drop at params) same

  pub first_next : (first one more : Option Fault)
      → IsFirstOf (faults_at here.place here.again here.incomplete) one
      → ((faults others : List Fault) → IsFirstOf faults one → IsFirstOf others first → IsFirstOf (faults ++ others) more)
      → ((n : Numbering) → IsFirstOf (faults_of_all (map (parameter_at n) (drop left params))) first)
      → (n : Numbering) → IsFirstOf (faults_of_all (map (parameter_at n) (drop (left - 1) params))) more
  first_next first one more is_one joins so_far n =
      subst (λ (these : List ParameterByNumber). IsFirstOf (faults_of_all (map (parameter_at n) these)) more) (sym from_back)
      (joins (faults_at here.place here.again here.incomplete) (faults_of_all (map (parameter_at n) (drop left params))) is_one (so_far n))

-- all of them
pub first_of_each : (params : List ParameterByNumber) (left : ℕ) (first : Option Fault) → left ≤ 0
    → ((n : Numbering) → IsFirstOf (faults_of_all (map (parameter_at n) (drop left params))) first)
    → (n : Numbering) → IsFirstOf (faults_of_all (map (parameter_at n) params)) first
first_of_each params left first none so_far n =
    let last : left ≡ 0 = omega (arith, none) in
    subst (λ (at : ℕ). IsFirstOf (faults_of_all (map (parameter_at n) (drop at params))) first) last (so_far n)
