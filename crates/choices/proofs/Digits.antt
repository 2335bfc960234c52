-- Bytes that are digits, and what they stand for.
use Rattle.std.proofs.Common.{◌≡◌, ℕ, ◌+◌, ◌*◌, ◌-◌, ◌/◌, ◌%◌, ◌^◌, ◌<◌, ◌≤◌, ◌==◌, true, false, [], ◌∷◌, ◌++◌, leb, ap, sym, ◌∙◌, arith, leb-true, le-leb, lt-ltb, le-ltb, ltb-true, nat_lt, if◌then◌else◌, Option, Some, None, ◌⊎◌, inl, inr}
use Rattle.std.specs.Fmt.{decimal, digit_glyph}
use Rattle.std.proofs.lemmas.Fmt.{decimal_step}
use Rattle.std.proofs.lemmas.Bool.{and_parts, and_from, and_right, cond_both, cond-true, cond-false, lt-leb, ne_eqb, cases_lt}
use Rattle.std.proofs.lemmas.Bool.Decides.{nat_tests}
use Rattle.cbase.specs.Bytes.{is_between, is_digit}
use Rattle.choices.specs.Format.{two_digits}
use Rattle.choices.specs.Reading.{with_digit, hex_value}

-- a byte between two, as a test and as an order
pub between : (low high byte : ℕ) → is_between low high byte ≡ true → (low ≤ byte) × (byte ≤ high)
between low high byte is =
    let parts = and_parts (leb low byte) (leb byte high) is in
    (leb-true low byte parts.0, leb-true byte high parts.1)

pub from_between : (low high byte : ℕ) → low ≤ byte → byte ≤ high → is_between low high byte ≡ true
from_between low high byte below above = and_from (leb low byte) (leb byte high) (le-leb low byte below) (le-leb byte high above)

pub not_between : (low high byte : ℕ) → high < byte → is_between low high byte ≡ false
not_between low high byte above = and_right (leb low byte) (leb byte high) (lt-leb byte high above)

-- a decimal digit is its value behind `0`
pub digit_is : (byte : ℕ) → is_digit byte ≡ true → (byte - 48 < 10) × (byte ≡ 48 + (byte - 48))
digit_is byte is = let b = between 48 57 byte is in let low : 48 ≤ byte = b.0 in let high : byte ≤ 57 = b.1 in (omega arith, omega arith)

pub is_digit_of : (d : ℕ) → d < 10 → is_digit (48 + d) ≡ true
is_digit_of d small = from_between 48 57 (48 + d) (omega arith) (omega arith)

-- ---- hexadecimal digits

pub glyph_low : (v : ℕ) → v < 10 → digit_glyph false v ≡ 48 + v
glyph_low v small = cond-true (nat_lt v 10) (48 + v) (87 + v) (lt-ltb v 10 small)

pub glyph_high : (v : ℕ) → 10 ≤ v → digit_glyph false v ≡ 87 + v
glyph_high v large = cond-false (nat_lt v 10) (48 + v) (87 + v) (le-ltb v 10 large)

pub hex_both : (P : Option ℕ → Type 0) (byte : ℕ) → ((v : ℕ) → v < 16 → byte ≡ digit_glyph false v → P (Some v)) → P None → P (hex_value byte)
hex_both P byte some none =
    cond_both (is_between 48 57 byte) (Some (byte - 48)) (if is_between 97 102 byte then Some (byte - 97 + 10) else None) P
    (λ is.
    let b = between 48 57 byte is in let low : 48 ≤ byte = b.0 in let high : byte ≤ 57 = b.1 in
    let same : byte ≡ 48 + (byte - 48) = omega arith in
    some (byte - 48) (omega arith) (same ∙ sym (glyph_low (byte - 48) (omega arith))))
    (λ is_not. cond_both (is_between 97 102 byte) (Some (byte - 97 + 10)) None P
    (λ is.
    let b = between 97 102 byte is in let low : 97 ≤ byte = b.0 in let high : byte ≤ 102 = b.1 in
    let same : byte ≡ 87 + (byte - 97 + 10) = omega arith in
    some (byte - 97 + 10) (omega arith) (same ∙ sym (glyph_high (byte - 97 + 10) (omega arith))))
    (λ is_not. none))

hex_low : (v : ℕ) → v < 10 → hex_value (48 + v) ≡ Some v
hex_low v small =
    cond-true (is_between 48 57 (48 + v)) (Some (48 + v - 48)) (if is_between 97 102 (48 + v) then Some (48 + v - 97 + 10) else None)
    (from_between 48 57 (48 + v) (omega arith) (omega arith))
    ∙ ap (λ (n : ℕ). Some n) (omega arith)

hex_high : (v : ℕ) → 10 ≤ v → v < 16 → hex_value (87 + v) ≡ Some v
hex_high v large small =
    cond-false (is_between 48 57 (87 + v)) (Some (87 + v - 48)) (if is_between 97 102 (87 + v) then Some (87 + v - 97 + 10) else None)
    (not_between 48 57 (87 + v) (omega arith))
    ∙ cond-true (is_between 97 102 (87 + v)) (Some (87 + v - 97 + 10)) None (from_between 97 102 (87 + v) (omega arith) (omega arith))
    ∙ ap (λ (n : ℕ). Some n) (omega arith)

hex_cases : (v : ℕ) → v < 16 → ((v < 10) ⊎ (10 ≤ v)) → hex_value (digit_glyph false v) ≡ Some v
hex_cases v small (inl low) = ap hex_value (glyph_low v low) ∙ hex_low v low
hex_cases v small (inr high) = ap hex_value (glyph_high v high) ∙ hex_high v high small

pub hex_of_glyph : (v : ℕ) → v < 16 → hex_value (digit_glyph false v) ≡ Some v
hex_of_glyph v small = hex_cases v small (cases_lt v 10)

-- ---- decimal digits

-- one digit more
pub decimal_more : (value digit : ℕ) → 0 < value → digit < 10 → 10 * value + digit < 2 ^ 64 → decimal (10 * value + digit) ≡ decimal value ++ (48 + digit) ∷ []
decimal_more value digit some small fits =
    let quotient : (10 * value + digit) / 10 ≡ value = omega arith in
    let rest : (10 * value + digit) % 10 ≡ digit = omega arith in
    decimal_step (10 * value + digit) (omega arith) fits
    ∙ ap (λ (n : ℕ). decimal n ++ (48 + (10 * value + digit) % 10) ∷ []) quotient
    ∙ ap (λ (n : ℕ). decimal value ++ (48 + n) ∷ []) rest

pub positive : (value : ℕ) → (value == 0) ≡ false → 0 < value
positive value not_zero = grind (arith, nat_tests)

pub with_digit_both : (P : Option ℕ → Type 0) (value digit : ℕ) → (0 < value → 10 * value + digit < 2 ^ 64 → P (Some (10 * value + digit))) → P None → P (with_digit value digit)
with_digit_both P value digit some none =
    cond_both (value == 0) None (if nat_lt (10 * value + digit) (2 ^ 64) then Some (10 * value + digit) else None) P
    (λ is. none)
    (λ is_not. cond_both (nat_lt (10 * value + digit) (2 ^ 64)) (Some (10 * value + digit)) None P
    (λ is. some (positive value is_not) (ltb-true (10 * value + digit) (2 ^ 64) is))
    (λ too_great. none))

pub with_digit_is : (value digit : ℕ) → 0 < value → 10 * value + digit < 2 ^ 64 → with_digit value digit ≡ Some (10 * value + digit)
with_digit_is value digit some fits =
    cond-false (value == 0) None (if nat_lt (10 * value + digit) (2 ^ 64) then Some (10 * value + digit) else None) (ne_eqb value 0 (omega arith))
    ∙ cond-true (nat_lt (10 * value + digit) (2 ^ 64)) (Some (10 * value + digit)) None (lt-ltb (10 * value + digit) (2 ^ 64) fits)

-- ---- two digits of a byte

pub two_digits_of : (high low : ℕ) → high < 16 → low < 16 → two_digits (16 * high + low) ≡ digit_glyph false high ∷ (digit_glyph false low ∷ [])
two_digits_of high low h l =
    let quotient : (16 * high + low) / 16 ≡ high = omega arith in
    let rest : (16 * high + low) % 16 ≡ low = omega arith in
    ap (λ (n : ℕ). digit_glyph false n ∷ (digit_glyph false ((16 * high + low) % 16) ∷ [])) quotient
    ∙ ap (λ (n : ℕ). digit_glyph false high ∷ (digit_glyph false n ∷ [])) rest
