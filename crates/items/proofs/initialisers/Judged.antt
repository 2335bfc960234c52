-- What is broken at a value that is stored, first.
use Rattle.std.proofs.Common.{◌≡◌, ◌∙◌, ℕ, Bool, true, false, [], ◌∷◌, List, map, drop, refl, sym, ap, subst, arith, None, Some}
use Rattle.std.specs.Prelude.{◌&&◌, not}
use Rattle.cbase.specs.declared.ctype.CType.{CType}
use Rattle.cbase.specs.declared.place.Place.{Place}
use Rattle.cbase.specs.declared.tree.expr.Expr.{Expr}
use Rattle.typing.specs.declared.ctypes.found.Broken.TheVariants.{Rule}
use Rattle.typing.specs.declared.ctypes.operand.Operand.{Operand as OperandByNumber}
use Rattle.typing.specs.ctypes.Converting.{converts}
use Rattle.typing.specs.ctypes.Kinds.{kind_of, decayed}
use Rattle.typing.specs.Faults.{fault, IsFirst}
use Rattle.typing.specs.Initialisers.{IsAsked}
use Rattle.typing.specs.Outcomes.{Handed}
use Rattle.typing.specs.Statements.{Stored, stored_faults, is_test_of_pointer}
use Rattle.expressions.specs.declared.known.Known.{Known as KnownByNumber}
use Rattle.expressions.specs.Context.{Context, Agrees}
use Rattle.expressions.specs.Numbers.{Numbering, handed_at, operand_at, operand_in}
use Rattle.expressions.proofs.Firsts.{first_alone}
use Rattle.items.specs.initialisers.Storing.{IsForm, IsJudged}

-- what does not convert is named before what is no constant
rule_5 : (fixed constant : Bool) (place : Place) → IsFirst (stored_faults fixed constant place false) (fault place (Rule 5))
rule_5 false constant place = first_alone (fault place (Rule 5) ∷ []) (fault place (Rule 5)) refl
rule_5 true true place = first_alone (fault place (Rule 5) ∷ []) (fault place (Rule 5)) refl
rule_5 true false place = record { front = []; back = fault place (Rule 9) ∷ []; whole = refl; later = tt; behind = (omega arith, tt) }

-- what is no constant, where that is asked
rule_9 : (fixed : Bool) (t : CType) (handed : List Handed) (value : Expr) (place : Place) → IsAsked (Stored fixed t) handed value false → IsFirst (stored_faults fixed false place true) (fault place (Rule 9))
rule_9 true t handed value place asked = first_alone (fault place (Rule 9) ∷ []) (fault place (Rule 9)) refl
rule_9 false t handed value place asked = cc asked

none_of : (fixed tests : Bool) (place : Place) → (fixed && tests) ≡ false → stored_faults fixed (not tests) place true ≡ []
none_of false tests place neither = refl
none_of true false place neither = refl
none_of true true place neither = cc neither

module _ (now : Context) (before : ℕ) (fixed : Bool) (to : ℕ) (value : Expr) (known : KnownByNumber) (operand : OperandByNumber) (converted constant : Bool)
    (same : operand ≡ operand_in known) (form : IsForm now before fixed value constant)
    (told : (n : Numbering) → Agrees n now → converted ≡ converts (kind_of now.structs (n.ctype to)) (decayed (operand_at n now.structs operand).kind) operand.null) where
  abbrev tests_in : Numbering → Bool
  tests_in n = is_test_of_pointer (kind_of now.structs (n.ctype to)) (decayed (kind_of now.structs (n.ctype known.ctype)))

  as_told : (n : Numbering) → Agrees n now → converted ≡ converts (kind_of now.structs (n.ctype to)) (decayed (kind_of now.structs (n.ctype known.ctype))) known.null
  as_told n agrees = told n agrees ∙ ap (λ (o : OperandByNumber). converts (kind_of now.structs (n.ctype to)) (decayed (operand_at n now.structs o).kind) o.null) same

  -- a value that does not convert
  pub unconverted : converted ≡ false → IsJudged now before fixed to value known (Some (fault value.place (Rule 5)))
  unconverted is = (
    constant,
    form,
    λ n agrees.
        subst (λ (test : Bool). IsFirst (stored_faults fixed (constant && not (tests_in n)) value.place test) (fault value.place (Rule 5))) (sym is ∙ as_told n agrees)
        (rule_5 fixed (constant && not (tests_in n)) value.place),
  )

  -- one that converts, and has not the form of a constant
  pub no_constant : converted ≡ true → constant ≡ false → IsJudged now before fixed to value known (Some (fault value.place (Rule 9)))
  no_constant is none = (
    constant,
    form,
    λ n agrees.
        let asked : IsAsked (Stored fixed (n.ctype to)) (map (handed_at n) (drop before now.handed)) value false =
        subst (λ (test : Bool). IsAsked (Stored fixed (n.ctype to)) (map (handed_at n) (drop before now.handed)) value test) none (form n (n.ctype to) agrees)
        in
        subst (λ (test : Bool). IsFirst (stored_faults fixed (constant && not (tests_in n)) value.place test) (fault value.place (Rule 9))) (sym is ∙ as_told n agrees)
        (subst (λ (test : Bool). IsFirst (stored_faults fixed (test && not (tests_in n)) value.place true) (fault value.place (Rule 9))) (sym none)
        (rule_9 fixed (n.ctype to) (map (handed_at n) (drop before now.handed)) value value.place asked)),
  )

  -- one that is a pointer and becomes a `_Bool`, or not
  module _ (tests : Bool) (tested : (n : Numbering) → Agrees n now → tests ≡ tests_in n) (is : converted ≡ true) (has : constant ≡ true) where
    pub test_of_pointer : fixed ≡ true → tests ≡ true → IsJudged now before fixed to value known (Some (fault value.place (Rule 9)))
    test_of_pointer lasts test = (
      constant,
      form,
      λ n agrees.
          subst (λ (t : Bool). IsFirst (stored_faults fixed (constant && not (tests_in n)) value.place t) (fault value.place (Rule 9))) (sym is ∙ as_told n agrees)
          (subst (λ (t : Bool). IsFirst (stored_faults fixed (constant && not t) value.place true) (fault value.place (Rule 9))) (sym test ∙ tested n agrees)
          (subst (λ (t : Bool). IsFirst (stored_faults fixed (t && false) value.place true) (fault value.place (Rule 9))) (sym has)
          (subst (λ (t : Bool). IsFirst (stored_faults t false value.place true) (fault value.place (Rule 9))) (sym lasts)
          (first_alone (fault value.place (Rule 9) ∷ []) (fault value.place (Rule 9)) refl)))),
    )

    pub nothing_broken : (fixed && tests) ≡ false → IsJudged now before fixed to value known None
    nothing_broken neither = (
      constant,
      form,
      λ n agrees.
          subst (λ (t : Bool). stored_faults fixed (constant && not (tests_in n)) value.place t ≡ []) (sym is ∙ as_told n agrees)
          (subst (λ (t : Bool). stored_faults fixed (constant && not t) value.place true ≡ []) (tested n agrees)
          (subst (λ (t : Bool). stored_faults fixed (t && not tests) value.place true ≡ []) (sym has) (none_of fixed tests value.place neither))),
    )
