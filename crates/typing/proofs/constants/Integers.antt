-- What is read as an integer constant is one, and each one is read.
use Rattle.std.proofs.Common.{◌≡◌, ℕ, ◌+◌, ◌<◌, ◌≤◌, Bool, true, false, ◌||◌, not, List, [], ◌∷◌, ◌++◌, length, take, drop, cond, refl, ap, sym, ◌∙◌, subst, arith, nat_lt, nat_eq, Option, Some, None, suc, inl, inr}
use Rattle.std.specs.Prelude.{if◌then◌else◌, option_and_then}
use Rattle.std.specs.List.{Contains, list_all, prefix_len}
use Rattle.std.specs.Char.{digit_value}
use Rattle.std.specs.Str.Parse.{IsNumeral, AllDigits, digits_value}
use Rattle.std.proofs.lemmas.Bool.{and_parts, and_from, not-true, or_cases, or_from, lt-ltb, eqb-true}
use Rattle.std.proofs.lemmas.List.{take-append-drop, append_assoc}
use Rattle.std.proofs.Math.Seq.{take-append_seam, drop-append_seam}
use Rattle.typing.specs.declared.constants.base.Base.{Base}
use Rattle.typing.specs.declared.constants.base.Base.TheVariants.{Decimal, Octal, Hexadecimal}
use Rattle.typing.specs.declared.constants.suffix.Suffix.{Suffix}
use Rattle.typing.specs.constants.Integers.{radix, prefixes, Begin, spellings, IsInteger}
use Rattle.typing.specs.constants.Meanings.{Reading, Integer, Reads}
use Rattle.typing.specs.constants.Deciding.{are_digits, is_before_suffix, suffix_of, integer_in, behind_zero, unsuffixed, integer, letter, reading_of}
use Rattle.typing.proofs.constants.Numerals.{numeral, are_digits-numeral, apart}
use Rattle.typing.proofs.constants.Suffixes.{of_one, suffix-complete, suffix-sound, ends-digits, suffix-ends}

-- what bytes without a suffix are read as
record IsUnsuffixed (bytes : List ℕ) (suffix : Suffix) (reading : Reading) : Type 0 where
  base : Base
  front : List ℕ
  digits : List ℕ
  whole : bytes ≡ front ++ digits
  prefixed : Contains (prefixes base) front
  digital : IsNumeral (radix base) digits
  begun : Begin base digits
  found : Integer base suffix (digits_value (radix base) digits) ≡ reading

in-sound : (base : Base) (suffix : Suffix) (digits : List ℕ) (reading : Reading) → integer_in base suffix digits ≡ Some reading
    → IsNumeral (radix base) digits × (Integer base suffix (digits_value (radix base) digits) ≡ reading)
in-sound base suffix digits reading is = step (are_digits (radix base) digits) refl is
  where
    step : (test : Bool) → are_digits (radix base) digits ≡ test → (if test then Some (Integer base suffix (digits_value (radix base) digits)) else None) ≡ Some reading
        → IsNumeral (radix base) digits × (Integer base suffix (digits_value (radix base) digits) ≡ reading)
    step true e i = (numeral (radix base) digits e, cc i)
    step false e i = absurd (cc i)

in-complete : (base : Base) (suffix : Suffix) (digits : List ℕ) → IsNumeral (radix base) digits → integer_in base suffix digits ≡ Some (Integer base suffix (digits_value (radix base) digits))
in-complete base suffix digits is =
    ap (λ (test : Bool). if test then Some (Integer base suffix (digits_value (radix base) digits)) else None) (are_digits-numeral (radix base) digits is)

zero-sound : (suffix : Suffix) (others : List ℕ) (reading : Reading) → behind_zero suffix others ≡ Some reading → IsUnsuffixed (48 ∷ others) suffix reading
zero-sound suffix [] reading is =
    let read : IsNumeral 8 (48 ∷ []) × (Integer Octal suffix (digits_value 8 (48 ∷ [])) ≡ reading) = in-sound Octal suffix (48 ∷ []) reading is in
    record { base = Octal; front = []; digits = 48 ∷ []; whole = refl; prefixed = (0, omega arith, refl); digital = read.0; begun = refl; found = read.1 }
zero-sound suffix (mark ∷ digits) reading is = step (nat_eq mark 120 || nat_eq mark 88) refl is
  where
    marked : (front : ℕ) → mark ≡ front → Contains (prefixes Hexadecimal) (48 ∷ (front ∷ [])) → integer_in Hexadecimal suffix digits ≡ Some reading → IsUnsuffixed (48 ∷ (mark ∷ digits)) suffix reading
    marked front e among i =
        let read : IsNumeral 16 digits × (Integer Hexadecimal suffix (digits_value 16 digits) ≡ reading) = in-sound Hexadecimal suffix digits reading i in
        record { base = Hexadecimal; front = 48 ∷ (front ∷ []); digits = digits; whole = ap (λ (n : ℕ). 48 ∷ (n ∷ digits)) e; prefixed = among; digital = read.0; begun = begun-all digits; found = read.1 }
      where
        begun-all : (ds : List ℕ) → Begin Hexadecimal ds
        begun-all [] = tt
        begun-all (d ∷ ds) = refl

    step : (test : Bool) → nat_eq mark 120 || nat_eq mark 88 ≡ test → (if test then integer_in Hexadecimal suffix digits else integer_in Octal suffix (48 ∷ (mark ∷ digits))) ≡ Some reading → IsUnsuffixed (48 ∷ (mark ∷ digits)) suffix reading
    step true e i = elim (or_cases (nat_eq mark 120) (nat_eq mark 88) e) [
      | inl small ↦ marked 120 (eqb-true mark 120 small) (0, omega arith, refl) i
      | inr large ↦ marked 88 (eqb-true mark 88 large) (1, omega arith, refl) i
    ]
    step false e i =
        let read : IsNumeral 8 (48 ∷ (mark ∷ digits)) × (Integer Octal suffix (digits_value 8 (48 ∷ (mark ∷ digits))) ≡ reading) = in-sound Octal suffix (48 ∷ (mark ∷ digits)) reading i in
        record { base = Octal; front = []; digits = 48 ∷ (mark ∷ digits); whole = refl; prefixed = (0, omega arith, refl); digital = read.0; begun = refl; found = read.1 }

unsuffixed-sound : (bytes : List ℕ) (suffix : Suffix) (reading : Reading) → unsuffixed bytes suffix ≡ Some reading → IsUnsuffixed bytes suffix reading
unsuffixed-sound [] suffix reading is = absurd (cc is)
unsuffixed-sound (first ∷ others) suffix reading is = step (nat_eq first 48) refl is
  where
    step : (test : Bool) → nat_eq first 48 ≡ test → (if test then behind_zero suffix others else integer_in Decimal suffix (first ∷ others)) ≡ Some reading → IsUnsuffixed (first ∷ others) suffix reading
    step true e i = subst (λ (byte : ℕ). IsUnsuffixed (byte ∷ others) suffix reading) (sym (eqb-true first 48 e)) (zero-sound suffix others reading i)
    step false e i =
        let read : IsNumeral 10 (first ∷ others) × (Integer Decimal suffix (digits_value 10 (first ∷ others)) ≡ reading) = in-sound Decimal suffix (first ∷ others) reading i in
        record { base = Decimal; front = []; digits = first ∷ others; whole = refl; prefixed = (0, omega arith, refl); digital = read.0; begun = ap not e; found = read.1 }

pub integer-sound : (spelling : List ℕ) (reading : Reading) → integer spelling ≡ Some reading → Reads spelling reading
unfolding integer
integer-sound spelling reading is = step (suffix_of (drop (prefix_len is_before_suffix spelling) spelling)) refl is
  where
    read : (suffix : Suffix) → suffix_of (drop (prefix_len is_before_suffix spelling) spelling) ≡ Some suffix
        → IsUnsuffixed (take (prefix_len is_before_suffix spelling) spelling) suffix reading → Reads spelling reading
    read suffix e parts =
        let known : IsInteger spelling parts.base suffix (digits_value (radix parts.base) parts.digits) = record {
          front = parts.front;
          digits = parts.digits;
          ending = drop (prefix_len is_before_suffix spelling) spelling;
          whole = sym (take-append-drop (prefix_len is_before_suffix spelling) spelling)
              ∙ (ap (λ (bytes : List ℕ). bytes ++ drop (prefix_len is_before_suffix spelling) spelling) parts.whole
              ∙ append_assoc parts.front parts.digits (drop (prefix_len is_before_suffix spelling) spelling));
          prefixed = parts.prefixed;
          digital = parts.digital;
          begun = parts.begun;
          suffixed = suffix-sound suffix (drop (prefix_len is_before_suffix spelling) spelling) e;
          value = refl;
        } in
        subst (Reads spelling) parts.found known

    step : (o : Option Suffix) → suffix_of (drop (prefix_len is_before_suffix spelling) spelling) ≡ o
        → option_and_then (unsuffixed (take (prefix_len is_before_suffix spelling) spelling)) o ≡ Some reading → Reads spelling reading
    step None e i = absurd (cc i)
    step (Some suffix) e i = read suffix e (unsuffixed-sound (take (prefix_len is_before_suffix spelling) spelling) suffix reading i)

-- each constant is read

decimal-complete : (suffix : Suffix) (digits : List ℕ) → IsNumeral 10 digits → Begin Decimal digits → unsuffixed digits suffix ≡ Some (Integer Decimal suffix (digits_value 10 digits))
decimal-complete suffix [] is begun = absurd (omega (arith, is.0))
decimal-complete suffix (first ∷ others) is begun =
    ap (λ (test : Bool). if test then behind_zero suffix others else integer_in Decimal suffix (first ∷ others)) (not-true (nat_eq first 48) begun)
    ∙ in-complete Decimal suffix (first ∷ others) is

zero-complete : (suffix : Suffix) (others : List ℕ) → IsNumeral 8 (48 ∷ others) → behind_zero suffix others ≡ Some (Integer Octal suffix (digits_value 8 (48 ∷ others)))
zero-complete suffix [] is = in-complete Octal suffix (48 ∷ []) is
zero-complete suffix (mark ∷ others) is =
    let digit : nat_lt (digit_value mark) 8 ≡ true = lt-ltb (digit_value mark) 8 is.1.1.0 in
    let unmarked : nat_eq mark 120 || nat_eq mark 88 ≡ false =
    or_from (nat_eq mark 120) (nat_eq mark 88)
    (apart (λ byte. nat_lt (digit_value byte) 8) mark 120 digit refl) (apart (λ byte. nat_lt (digit_value byte) 8) mark 88 digit refl) in
    ap (λ (test : Bool). if test then integer_in Hexadecimal suffix others else integer_in Octal suffix (48 ∷ (mark ∷ others))) unmarked
    ∙ in-complete Octal suffix (48 ∷ (mark ∷ others)) is

octal-complete : (suffix : Suffix) (digits : List ℕ) → IsNumeral 8 digits → Begin Octal digits → unsuffixed digits suffix ≡ Some (Integer Octal suffix (digits_value 8 digits))
octal-complete suffix [] is begun = absurd (omega (arith, is.0))
octal-complete suffix (first ∷ others) is begun =
    let P : ℕ → Type 0 = λ byte. IsNumeral 8 (byte ∷ others) → unsuffixed (byte ∷ others) suffix ≡ Some (Integer Octal suffix (digits_value 8 (byte ∷ others))) in
    subst P (sym (eqb-true first 48 begun)) (zero-complete suffix others) is

unsuffixed-complete : (base : Base) (suffix : Suffix) (front digits : List ℕ) → Contains (prefixes base) front → IsNumeral (radix base) digits → Begin base digits
    → unsuffixed (front ++ digits) suffix ≡ Some (Integer base suffix (digits_value (radix base) digits))
unsuffixed-complete Decimal suffix front digits one is begun =
    of_one (λ bytes. unsuffixed (bytes ++ digits) suffix ≡ Some (Integer Decimal suffix (digits_value 10 digits))) (prefixes Decimal) front
    (decimal-complete suffix digits is begun, tt) one
unsuffixed-complete Octal suffix front digits one is begun =
    of_one (λ bytes. unsuffixed (bytes ++ digits) suffix ≡ Some (Integer Octal suffix (digits_value 8 digits))) (prefixes Octal) front
    (octal-complete suffix digits is begun, tt) one
unsuffixed-complete Hexadecimal suffix front digits one is begun =
    of_one (λ bytes. unsuffixed (bytes ++ digits) suffix ≡ Some (Integer Hexadecimal suffix (digits_value 16 digits))) (prefixes Hexadecimal) front
    (in-complete Hexadecimal suffix digits is, (in-complete Hexadecimal suffix digits is, tt)) one

-- no digit is a byte that a suffix has

digit-before : (byte : ℕ) → digit_value byte < 16 → is_before_suffix byte ≡ true
digit-before byte small =
    let digit : nat_lt (digit_value byte) 16 ≡ true = lt-ltb (digit_value byte) 16 small in
    λ i. not (apart (λ n. nat_lt (digit_value n) 16) byte 117 digit refl i || (apart (λ n. nat_lt (digit_value n) 16) byte 85 digit refl i
    || (apart (λ n. nat_lt (digit_value n) 16) byte 108 digit refl i || apart (λ n. nat_lt (digit_value n) 16) byte 76 digit refl i)))

radix-small : (base : Base) → radix base ≤ 16
radix-small Decimal = omega arith
radix-small Octal = omega arith
radix-small Hexadecimal = omega arith

digits-before : (base : Base) (digits : List ℕ) → AllDigits (radix base) digits → list_all is_before_suffix digits ≡ true
digits-before base [] all = refl
digits-before base (digit ∷ digits) all =
    and_from (is_before_suffix digit) (list_all is_before_suffix digits)
    (digit-before digit (omega (arith, radix-small base, all.0))) (digits-before base digits all.1)

front-before : (base : Base) (front digits : List ℕ) → Contains (prefixes base) front → list_all is_before_suffix digits ≡ true → list_all is_before_suffix (front ++ digits) ≡ true
front-before Decimal front digits one all = of_one (λ bytes. list_all is_before_suffix (bytes ++ digits) ≡ true) (prefixes Decimal) front (all, tt) one
front-before Octal front digits one all = of_one (λ bytes. list_all is_before_suffix (bytes ++ digits) ≡ true) (prefixes Octal) front (all, tt) one
front-before Hexadecimal front digits one all = of_one (λ bytes. list_all is_before_suffix (bytes ++ digits) ≡ true) (prefixes Hexadecimal) front (all, (all, tt)) one

split : (bytes ending : List ℕ) → list_all is_before_suffix bytes ≡ true → ends-digits ending ≡ true → prefix_len is_before_suffix (bytes ++ ending) ≡ length bytes
unfolding ends-digits
split [] [] all ends = refl
split [] (byte ∷ ending) all ends = ap (λ (test : Bool). cond test (1 + prefix_len is_before_suffix ending) 0) (not-true (is_before_suffix byte) ends)
split (byte ∷ bytes) ending all ends =
    let parts : (is_before_suffix byte ≡ true) × (list_all is_before_suffix bytes ≡ true) = and_parts (is_before_suffix byte) (list_all is_before_suffix bytes) all in
    let rest : prefix_len is_before_suffix (bytes ++ ending) ≡ length bytes = split bytes ending parts.1 ends in
    let one : 1 + prefix_len is_before_suffix (bytes ++ ending) ≡ suc (length bytes) = omega (arith, rest) in
    ap (λ (test : Bool). cond test (1 + prefix_len is_before_suffix (bytes ++ ending)) 0) parts.0 ∙ one

-- a constant begins with a digit, and so with no quote

begins-digit : List ℕ → Bool
begins-digit [] = false
begins-digit (byte ∷ others) = nat_lt (digit_value byte) 16

reading-integer : (bytes : List ℕ) → begins-digit bytes ≡ true → reading_of bytes ≡ integer bytes
unfolding begins-digit
reading-integer [] is = absurd (cc is)
reading-integer (first ∷ others) is =
    ap (λ (test : Bool). if test then letter others else integer (first ∷ others))
    (apart (λ byte. nat_lt (digit_value byte) 16) first 39 is refl)

digits-begin : (base : Base) (digits ending : List ℕ) → IsNumeral (radix base) digits → begins-digit (digits ++ ending) ≡ true
unfolding begins-digit
digits-begin base [] ending is = absurd (omega (arith, is.0))
digits-begin base (digit ∷ digits) ending is = lt-ltb (digit_value digit) 16 (omega (arith, radix-small base, is.1.0))

front-begin : (base : Base) (front bytes : List ℕ) → Contains (prefixes base) front → begins-digit bytes ≡ true → begins-digit (front ++ bytes) ≡ true
unfolding begins-digit
front-begin Decimal front bytes one is = of_one (λ f. begins-digit (f ++ bytes) ≡ true) (prefixes Decimal) front (is, tt) one
front-begin Octal front bytes one is = of_one (λ f. begins-digit (f ++ bytes) ≡ true) (prefixes Octal) front (is, tt) one
front-begin Hexadecimal front bytes one is = of_one (λ f. begins-digit (f ++ bytes) ≡ true) (prefixes Hexadecimal) front (refl, (refl, tt)) one

parts-complete : (base : Base) (suffix : Suffix) (bytes ending : List ℕ) → list_all is_before_suffix bytes ≡ true → Contains (spellings suffix) ending
    → integer (bytes ++ ending) ≡ unsuffixed bytes suffix
unfolding integer
parts-complete base suffix bytes ending before one =
    ap (λ (n : ℕ). option_and_then (unsuffixed (take n (bytes ++ ending))) (suffix_of (drop n (bytes ++ ending)))) (split bytes ending before (suffix-ends suffix ending one))
    ∙ (ap (λ (xs : List ℕ). option_and_then (unsuffixed xs) (suffix_of (drop (length bytes) (bytes ++ ending)))) (take-append_seam bytes ending)
    ∙ (ap (λ (xs : List ℕ). option_and_then (unsuffixed bytes) (suffix_of xs)) (drop-append_seam bytes ending)
    ∙ ap (λ (o : Option Suffix). option_and_then (unsuffixed bytes) o) (suffix-complete suffix ending one)))

pub integer-complete : (spelling : List ℕ) (base : Base) (suffix : Suffix) (number : ℕ) → IsInteger spelling base suffix number → reading_of spelling ≡ Some (Integer base suffix number)
integer-complete spelling base suffix number is =
    ap reading_of is.whole
    ∙ (reading-integer (is.front ++ (is.digits ++ is.ending)) (front-begin base is.front (is.digits ++ is.ending) is.prefixed (digits-begin base is.digits is.ending is.digital))
    ∙ (ap integer (sym (append_assoc is.front is.digits is.ending))
    ∙ (parts-complete base suffix (is.front ++ is.digits) is.ending (front-before base is.front is.digits is.prefixed (digits-before base is.digits is.digital.1)) is.suffixed
    ∙ (unsuffixed-complete base suffix is.front is.digits is.prefixed is.digital is.begun
    ∙ ap (λ (n : ℕ). Some (Integer base suffix n)) (sym is.value)))))
