-- Which registers and variables stand behind an instruction, one by one.
use Rattle.std.proofs.Common.{◌≡◌, ℕ, Bool, true, false, not, ◌&&◌, ◌||◌, List, [], ◌∷◌, nat_eq, nat_lt, Option, None, Some, refl, sym, ◌∙◌, ap, eqb-true, eq-eqb}
use Rattle.std.specs.Prelude.{if◌then◌else◌}
use Rattle.std.specs.List.{list_any}
use Rattle.std.proofs.lemmas.Bool.{false≢true}
use Rattle.changes.specs.Parts.{is_among}
use Rattle.flow.specs.declared.flow_graph.Width.{Width}
use Rattle.flow.specs.Holding.{size_of, put_width, emptied_widths, put_variable, left_variables}
use Rattle.flow.specs.Standing.{with_variables}

pub eqb_turned : (one other : ℕ) → nat_eq one other ≡ nat_eq other one
eqb_turned one other = by_test (nat_eq one other) refl (nat_eq other one) refl
  where
    by_test : (b : Bool) → nat_eq one other ≡ b → (c : Bool) → nat_eq other one ≡ c → b ≡ c
    by_test true is true is' = refl
    by_test true is false is' = absurd (false≢true (sym is' ∙ eq-eqb other one (sym (eqb-true _ _ is))))
    by_test false is true is' = absurd (false≢true (sym is ∙ eq-eqb one other (sym (eqb-true _ _ is'))))
    by_test false is false is' = refl

pub among_any : (gone : List ℕ) (number : ℕ) → is_among gone number ≡ list_any (nat_eq number) gone
among_any [] number = refl
among_any (first ∷ rest) number =
    ap (λ (b : Bool). b || is_among rest number) (eqb_turned first number) ∙ ap (λ (b : Bool). nat_eq number first || b) (among_any rest number)

-- registers that are emptied
abbrev no_size : Option ℕ
no_size = None

pub size_emptied : (gone : List ℕ) (widths : List Width) (register : ℕ) → size_of (emptied_widths gone widths) register ≡ (if is_among gone register then None else size_of widths register)
size_emptied gone [] register = by_test (is_among gone register)
  where
    by_test : (b : Bool) → no_size ≡ (if b then None else None)
    by_test true = refl
    by_test false = refl
size_emptied gone (first ∷ rest) register = by_key (nat_eq first.register register) refl (list_any (nat_eq first.register) gone) refl (size_emptied gone rest register)
  where
    by_key : (here : Bool) → nat_eq first.register register ≡ here → (goes : Bool) → list_any (nat_eq first.register) gone ≡ goes →
        size_of (emptied_widths gone rest) register ≡ (if is_among gone register then None else size_of rest register) →
        size_of (if not goes then first ∷ emptied_widths gone rest else emptied_widths gone rest) register ≡ (if is_among gone register then None else (if here then Some first.size else size_of rest register))
    by_key true is true goes later = later ∙ ap (λ (b : Bool). if b then None else size_of rest register) all ∙ sym (ap (λ (b : Bool). if b then None else Some first.size) all)
      where
        all : is_among gone register ≡ true
        all = among_any gone register ∙ ap (λ (n : ℕ). list_any (nat_eq n) gone) (sym (eqb-true _ _ is)) ∙ goes
    by_key true is false goes later =
        ap (λ (b : Bool). if b then Some first.size else size_of (emptied_widths gone rest) register) is
        ∙ sym (ap (λ (b : Bool). if b then None else Some first.size) (among_any gone register ∙ ap (λ (n : ℕ). list_any (nat_eq n) gone) (sym (eqb-true _ _ is)) ∙ goes))
    by_key false is true goes later = later
    by_key false is false goes later = ap (λ (b : Bool). if b then Some first.size else size_of (emptied_widths gone rest) register) is ∙ later

-- a register that gets a value
pub size_put : (new : Width) (widths : List Width) (register : ℕ) → size_of (put_width new widths) register ≡ (if nat_eq register new.register then Some new.size else size_of widths register)
size_put new [] register = ap (λ (b : Bool). if b then Some new.size else None) (eqb_turned new.register register)
size_put new (first ∷ rest) register = by_order (nat_lt new.register first.register) (nat_eq first.register new.register) refl (size_put new rest register)
  where
    front : (widths : List Width) → size_of (new ∷ widths) register ≡ (if nat_eq register new.register then Some new.size else size_of widths register)
    front widths = ap (λ (b : Bool). if b then Some new.size else size_of widths register) (eqb_turned new.register register)

    in_place : (here : Bool) → nat_eq register new.register ≡ here → (same : Bool) → nat_eq first.register register ≡ same → nat_eq first.register new.register ≡ true →
        (if here then Some new.size else size_of rest register) ≡ (if here then Some new.size else (if same then Some first.size else size_of rest register))
    in_place true is same same_is equal = refl
    in_place false is true same_is equal = absurd (false≢true (sym is ∙ eq-eqb register new.register (sym (eqb-true _ _ same_is) ∙ eqb-true _ _ equal)))
    in_place false is false same_is equal = refl

    behind : (here : Bool) → nat_eq register new.register ≡ here → (same : Bool) → nat_eq first.register register ≡ same → nat_eq first.register new.register ≡ false →
        (if same then Some first.size else (if here then Some new.size else size_of rest register)) ≡ (if here then Some new.size else (if same then Some first.size else size_of rest register))
    behind true is true same_is differ = absurd (false≢true (sym differ ∙ eq-eqb first.register new.register (eqb-true _ _ same_is ∙ eqb-true _ _ is)))
    behind true is false same_is differ = refl
    behind false is same same_is differ = refl

    by_order : (below same : Bool) → nat_eq first.register new.register ≡ same →
        size_of (put_width new rest) register ≡ (if nat_eq register new.register then Some new.size else size_of rest register) →
        size_of (if below then new ∷ first ∷ rest else (if same then new ∷ rest else first ∷ put_width new rest)) register ≡ (if nat_eq register new.register then Some new.size else size_of (first ∷ rest) register)
    by_order true same is later = front (first ∷ rest)
    by_order false true is later = front rest ∙ in_place (nat_eq register new.register) refl (nat_eq first.register register) refl is
    by_order false false is later =
        ap (λ (o : Option ℕ). if nat_eq first.register register then Some first.size else o) later ∙ behind (nat_eq register new.register) refl (nat_eq first.register register) refl is

-- variables that begin to stand, and such as stand no more
or_swapped : (a b c : Bool) → (a || (b || c)) ≡ (b || (a || c))
or_swapped true true c = refl
or_swapped true false c = refl
or_swapped false b c = refl

any_put : (new : ℕ) (variables : List ℕ) (variable : ℕ) → list_any (nat_eq variable) (put_variable new variables) ≡ (nat_eq variable new || list_any (nat_eq variable) variables)
any_put new [] variable = refl
any_put new (first ∷ rest) variable = by_order (nat_lt new first) (any_put new rest variable)
  where
    by_order : (below : Bool) → list_any (nat_eq variable) (put_variable new rest) ≡ (nat_eq variable new || list_any (nat_eq variable) rest) →
        list_any (nat_eq variable) (if below then new ∷ first ∷ rest else first ∷ put_variable new rest) ≡ (nat_eq variable new || (nat_eq variable first || list_any (nat_eq variable) rest))
    by_order true later = refl
    by_order false later = ap (λ (b : Bool). nat_eq variable first || b) later ∙ or_swapped (nat_eq variable first) (nat_eq variable new) (list_any (nat_eq variable) rest)

pub any_with : (new variables : List ℕ) (variable : ℕ) → list_any (nat_eq variable) (with_variables new variables) ≡ (list_any (nat_eq variable) new || list_any (nat_eq variable) variables)
any_with [] variables variable = refl
any_with (first ∷ rest) variables variable =
    any_with rest (put_variable first variables) variable ∙ ap (λ (b : Bool). list_any (nat_eq variable) rest || b) (any_put first variables variable)
    ∙ turned (list_any (nat_eq variable) rest) (nat_eq variable first) (list_any (nat_eq variable) variables)
  where
    turned : (a b c : Bool) → (a || (b || c)) ≡ ((b || a) || c)
    turned true true c = refl
    turned true false c = refl
    turned false true c = refl
    turned false false c = refl

pub any_left : (gone variables : List ℕ) (variable : ℕ) → list_any (nat_eq variable) (left_variables gone variables) ≡ (not (is_among gone variable) && list_any (nat_eq variable) variables)
any_left gone [] variable = by_test (not (is_among gone variable))
  where
    by_test : (b : Bool) → false ≡ (b && false)
    by_test true = refl
    by_test false = refl
any_left gone (first ∷ rest) variable = by_key (nat_eq variable first) refl (list_any (nat_eq first) gone) refl (any_left gone rest variable)
  where
    by_key : (here : Bool) → nat_eq variable first ≡ here → (goes : Bool) → list_any (nat_eq first) gone ≡ goes →
        list_any (nat_eq variable) (left_variables gone rest) ≡ (not (is_among gone variable) && list_any (nat_eq variable) rest) →
        list_any (nat_eq variable) (if not goes then first ∷ left_variables gone rest else left_variables gone rest) ≡ (not (is_among gone variable) && (here || list_any (nat_eq variable) rest))
    by_key true is true goes later =
        later ∙ ap (λ (b : Bool). not b && list_any (nat_eq variable) rest) all ∙ sym (ap (λ (b : Bool). not b && true) all)
      where
        all : is_among gone variable ≡ true
        all = among_any gone variable ∙ ap (λ (n : ℕ). list_any (nat_eq n) gone) (eqb-true _ _ is) ∙ goes
    by_key true is false goes later =
        ap (λ (b : Bool). b || list_any (nat_eq variable) (left_variables gone rest)) is
        ∙ sym (ap (λ (b : Bool). not b && true) (among_any gone variable ∙ ap (λ (n : ℕ). list_any (nat_eq n) gone) (eqb-true _ _ is) ∙ goes))
    by_key false is true goes later = later
    by_key false is false goes later = ap (λ (b : Bool). b || list_any (nat_eq variable) (left_variables gone rest)) is ∙ later
