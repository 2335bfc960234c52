-- Reading digits one behind the other, in 64 bits: a number that is too large stays too large.
use Rattle.std.proofs.Common.{◌≡◌, ℕ, ◌+◌, ◌*◌, ◌^◌, ◌<◌, ◌≤◌, List, [], ◌∷◌, ◌++◌, drop, length, get_or, arith, sym, ◌∙◌, ap}
use Rattle.std.specs.Char.{digit_value}
use Rattle.std.specs.Str.Parse.{digits_value, digits_value_after}
use Rattle.std.proofs.lemmas.List.{at_drop_more, at_drop_all}
use Rattle.std.proofs.lemmas.Int.Digits.{digits_value_push}
use Rattle.std.proofs.Math.Nat.{le-mul_of_pos_right}
use Rattle.typing.specs.declared.constants.base.Base.{Base}
use Rattle.typing.specs.constants.Integers.{radix}

-- digits behind a number make it no smaller
value_grows : (radix n : ℕ) → 0 < radix → (digits : List ℕ) → n ≤ digits_value_after radix n digits
value_grows radix n some [] = omega arith
value_grows radix n some (digit ∷ digits) =
    omega (arith, le-mul_of_pos_right {m = radix} n some, value_grows radix (n * radix + digit_value digit) some digits)

-- the number so far, and what it and the digits behind it make
pub record IsRead (radix : ℕ) (digits : List ℕ) (index value : ℕ) : Type 0 where
  pub leads : digits_value radix digits ≡ digits_value_after radix value (drop index digits)
  pub small : value < 2 ^ 64

pub number_goes_on : (radix : ℕ) (digits : List ℕ) (index value digit next : ℕ) → IsRead radix digits index value → index < length digits
    → digit ≡ get_or digits index 0 → next ≡ value * radix + digit_value digit → next < 2 ^ 64 → IsRead radix digits (index + 1) next
number_goes_on radix digits index value digit next so_far inside is is_next small = record {
  leads = so_far.leads ∙ (at_drop_more (digits_value_after radix value) digits index 0 inside
      ∙ ap (λ (n : ℕ). digits_value_after radix n (drop (index + 1) digits)) (ap (λ (d : ℕ). value * radix + digit_value d) (sym is) ∙ sym is_next));
  small = small;
}

pub number_exceeds : (radix : ℕ) (digits : List ℕ) (index value digit : ℕ) → 0 < radix → IsRead radix digits index value → index < length digits
    → digit ≡ get_or digits index 0 → (value * radix + digit_value digit < 2 ^ 64 → ⊥) → digits_value radix digits < 2 ^ 64 → ⊥
number_exceeds radix digits index value digit some so_far inside is large small =
    let whole : digits_value radix digits ≡ digits_value_after radix (value * radix + digit_value digit) (drop (index + 1) digits) =
    so_far.leads ∙ (at_drop_more (digits_value_after radix value) digits index 0 inside
    ∙ ap (λ (d : ℕ). digits_value_after radix (value * radix + digit_value d) (drop (index + 1) digits)) (sym is)) in
    large (omega (arith, small, whole, value_grows radix (value * radix + digit_value digit) some (drop (index + 1) digits)))

pub number_ends : (radix : ℕ) (digits : List ℕ) (index value : ℕ) → IsRead radix digits index value → length digits ≤ index
    → (digits_value radix digits < 2 ^ 64) × (value ≡ digits_value radix digits)
number_ends radix digits index value so_far past =
    let whole : digits_value radix digits ≡ value = so_far.leads ∙ at_drop_all (digits_value_after radix value) digits index past in
    (omega (arith, whole, so_far.small), sym whole)

pub value_push : (base : Base) (digits : List ℕ) (last : ℕ) → digits_value (radix base) (digits ++ last ∷ []) ≡ radix base * digits_value (radix base) digits + digit_value last
value_push base digits last = omega (arith, digits_value_push (radix base) digits last)
