-- Digits as a test, and what a byte that passes one test is not.
use Rattle.std.proofs.Common.{◌≡◌, ℕ, Bool, true, false, List, [], ◌∷◌, length, refl, ap, sym, ◌∙◌, nat_lt, nat_eq}
use Rattle.std.specs.List.{list_all}
use Rattle.std.specs.Char.{digit_value}
use Rattle.std.specs.Str.Parse.{IsNumeral, AllDigits}
use Rattle.std.proofs.lemmas.Bool.{and_parts, and_from, ltb-true, lt-ltb, eqb-true}
use Rattle.typing.specs.constants.Deciding.{are_digits}

tested : (radix : ℕ) (digits : List ℕ) → list_all (λ digit. nat_lt (digit_value digit) radix) digits ≡ true → AllDigits radix digits
tested radix [] is = tt
tested radix (digit ∷ digits) is =
    let parts : (nat_lt (digit_value digit) radix ≡ true) × (list_all (λ digit. nat_lt (digit_value digit) radix) digits ≡ true)
    = and_parts (nat_lt (digit_value digit) radix) (list_all (λ digit. nat_lt (digit_value digit) radix) digits) is in
    (ltb-true (digit_value digit) radix parts.0, tested radix digits parts.1)

passing : (radix : ℕ) (digits : List ℕ) → AllDigits radix digits → list_all (λ digit. nat_lt (digit_value digit) radix) digits ≡ true
passing radix [] all = refl
passing radix (digit ∷ digits) all =
    and_from (nat_lt (digit_value digit) radix) (list_all (λ digit. nat_lt (digit_value digit) radix) digits)
    (lt-ltb (digit_value digit) radix all.0) (passing radix digits all.1)

pub numeral : (radix : ℕ) (digits : List ℕ) → are_digits radix digits ≡ true → IsNumeral radix digits
numeral radix digits is =
    let parts : (nat_lt 0 (length digits) ≡ true) × (list_all (λ digit. nat_lt (digit_value digit) radix) digits ≡ true)
    = and_parts (nat_lt 0 (length digits)) (list_all (λ digit. nat_lt (digit_value digit) radix) digits) is in
    (ltb-true 0 (length digits) parts.0, tested radix digits parts.1)

pub are_digits-numeral : (radix : ℕ) (digits : List ℕ) → IsNumeral radix digits → are_digits radix digits ≡ true
are_digits-numeral radix digits is =
    and_from (nat_lt 0 (length digits)) (list_all (λ digit. nat_lt (digit_value digit) radix) digits)
    (lt-ltb 0 (length digits) is.0) (passing radix digits is.1)

-- a byte that passes a test is none that does not
pub apart : (test : ℕ → Bool) (byte other : ℕ) → test byte ≡ true → test other ≡ false → nat_eq byte other ≡ false
apart test byte other is differs = step (nat_eq byte other) refl
  where
    step : (same : Bool) → nat_eq byte other ≡ same → nat_eq byte other ≡ false
    step true e = let clash : true ≡ false = sym is ∙ (ap test (eqb-true byte other e) ∙ differs) in cc clash
    step false e = e
