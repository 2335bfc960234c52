-- What is read between quotes is what a constant of one character has there.
use Rattle.std.proofs.Common.{◌≡◌, ℕ, ◌+◌, ◌-◌, ◌<◌, ◌≤◌, Bool, true, false, ◌&&◌, ◌||◌, List, [], ◌∷◌, ◌++◌, length, take, get_or, refl, ap, sym, ◌∙◌, subst, arith, nat_lt, nat_le, nat_eq, Option, Some, None}
use Rattle.std.specs.Prelude.{if◌then◌else◌, option_map, option_and_then}
use Rattle.std.specs.Char.{digit_value}
use Rattle.std.specs.Str.Parse.{IsNumeral, digits_value}
use Rattle.std.proofs.lemmas.Bool.{and_parts, not-true, or_parts, ltb-true, lt-ltb, leb-true, le-leb, eqb-true, ne_eqb}
use Rattle.std.proofs.lemmas.List.{take_more, take_all, length-append}
use Rattle.std.proofs.Math.Seq.{take-append_seam, get_or-append_seam}
use Rattle.typing.specs.constants.Characters.{IsCharacter, Plain, SimpleEscape, OctalEscape, HexadecimalEscape, IsLetter, is_plain, simple_escape}
use Rattle.typing.specs.constants.Meanings.{Reading, Letter, Reads}
use Rattle.typing.specs.constants.Deciding.{are_digits, code_in, octal_escape, escape, character, before_quote, letter, reading_of}
use Rattle.typing.proofs.constants.Numerals.{numeral, are_digits-numeral, apart}

-- digits

code-sound : (radix : ℕ) (digits : List ℕ) (code : ℕ) → code_in radix digits ≡ Some code → IsNumeral radix digits × (digits_value radix digits ≡ code)
code-sound radix digits code is = step (are_digits radix digits) refl is
  where
    step : (test : Bool) → are_digits radix digits ≡ test → (if test then Some (digits_value radix digits) else None) ≡ Some code → IsNumeral radix digits × (digits_value radix digits ≡ code)
    step true e i = (numeral radix digits e, cc i)
    step false e i = absurd (cc i)

code-complete : (radix : ℕ) (digits : List ℕ) → IsNumeral radix digits → code_in radix digits ≡ Some (digits_value radix digits)
code-complete radix digits is = ap (λ (test : Bool). if test then Some (digits_value radix digits) else None) (are_digits-numeral radix digits is)

octal-sound : (digits : List ℕ) (code : ℕ) → octal_escape digits ≡ Some code → IsCharacter (92 ∷ digits) code
octal-sound digits code is = step (nat_le (length digits) 3) refl is
  where
    step : (test : Bool) → nat_le (length digits) 3 ≡ test → (if test then code_in 8 digits else None) ≡ Some code → IsCharacter (92 ∷ digits) code
    step true e i =
        let found : IsNumeral 8 digits × (digits_value 8 digits ≡ code) = code-sound 8 digits code i in
        subst (IsCharacter (92 ∷ digits)) found.1 (OctalEscape digits found.0 (leb-true (length digits) 3 e))
    step false e i = absurd (cc i)

-- escapes

longer : (byte : ℕ) (others : List ℕ) → nat_eq (length (byte ∷ others)) 0 ≡ false
longer byte others = ne_eqb (length (byte ∷ others)) 0 (λ e. omega (arith, e))

simple-sound : (first : ℕ) (others : List ℕ) (code : ℕ) → (if nat_eq (length others) 0 then simple_escape first else None) ≡ Some code → IsCharacter (92 ∷ (first ∷ others)) code
simple-sound first [] code is = SimpleEscape first code is
simple-sound first (byte ∷ others) code is =
    let clash : None ≡ Some code = sym (ap (λ (test : Bool). if test then simple_escape first else None) (longer byte others)) ∙ is in absurd (cc clash)

escape-sound : (bytes : List ℕ) (code : ℕ) → escape bytes ≡ Some code → IsCharacter (92 ∷ bytes) code
escape-sound [] code is = absurd (cc is)
escape-sound (first ∷ others) code is = step (nat_lt (digit_value first) 8) is
  where
    hexadecimal : code_in 16 others ≡ Some code → nat_eq first 120 ≡ true → IsCharacter (92 ∷ (first ∷ others)) code
    hexadecimal i e =
        let found : IsNumeral 16 others × (digits_value 16 others ≡ code) = code-sound 16 others code i in
        subst (λ (byte : ℕ). IsCharacter (92 ∷ (byte ∷ others)) code) (sym (eqb-true first 120 e))
        (subst (IsCharacter (92 ∷ (120 ∷ others))) found.1 (HexadecimalEscape others found.0))

    marked : (test : Bool) → nat_eq first 120 ≡ test → (if test then code_in 16 others else (if nat_eq (length others) 0 then simple_escape first else None)) ≡ Some code → IsCharacter (92 ∷ (first ∷ others)) code
    marked true e i = hexadecimal i e
    marked false e i = simple-sound first others code i

    step : (test : Bool) → (if test then octal_escape (first ∷ others) else (if nat_eq first 120 then code_in 16 others else (if nat_eq (length others) 0 then simple_escape first else None))) ≡ Some code → IsCharacter (92 ∷ (first ∷ others)) code
    step true i = octal-sound (first ∷ others) code i
    step false i = marked (nat_eq first 120) refl i

-- no simple escape begins another one
no-simple : (test : ℕ → Bool) (byte : ℕ) → test byte ≡ true
    → test 39 ≡ false → test 34 ≡ false → test 63 ≡ false → test 92 ≡ false → test 97 ≡ false → test 98 ≡ false
    → test 102 ≡ false → test 110 ≡ false → test 114 ≡ false → test 116 ≡ false → test 118 ≡ false
    → simple_escape byte ≡ None
no-simple test byte is a b c d e f g h j k l = λ i.
    if apart test byte 39 is a i then Some 39
    else (if apart test byte 34 is b i then Some 34
    else (if apart test byte 63 is c i then Some 63
    else (if apart test byte 92 is d i then Some 92
    else (if apart test byte 97 is e i then Some 7
    else (if apart test byte 98 is f i then Some 8
    else (if apart test byte 102 is g i then Some 12
    else (if apart test byte 110 is h i then Some 10
    else (if apart test byte 114 is j i then Some 13
    else (if apart test byte 116 is k i then Some 9
    else (if apart test byte 118 is l i then Some 11
    else None))))))))))

escape-simple : (byte code : ℕ) → simple_escape byte ≡ Some code → escape (byte ∷ []) ≡ Some code
escape-simple byte code is = step (nat_lt (digit_value byte) 8) refl
  where
    marked : (test : Bool) → nat_eq byte 120 ≡ test → (if test then code_in 16 [] else simple_escape byte) ≡ Some code
    marked true e = let clash : Some code ≡ None = sym is ∙ no-simple (λ n. nat_eq n 120) byte e refl refl refl refl refl refl refl refl refl refl refl in cc clash
    marked false e = is

    step : (test : Bool) → nat_lt (digit_value byte) 8 ≡ test → (if test then octal_escape (byte ∷ []) else (if nat_eq byte 120 then code_in 16 [] else simple_escape byte)) ≡ Some code
    step true e = let clash : Some code ≡ None = sym is ∙ no-simple (λ n. nat_lt (digit_value n) 8) byte e refl refl refl refl refl refl refl refl refl refl refl in cc clash
    step false e = marked (nat_eq byte 120) refl

escape-octal : (digits : List ℕ) → IsNumeral 8 digits → length digits ≤ 3 → escape digits ≡ Some (digits_value 8 digits)
escape-octal [] is short = absurd (omega (arith, is.0))
escape-octal (digit ∷ digits) is short =
    ap (λ (test : Bool). if test then octal_escape (digit ∷ digits) else (if nat_eq digit 120 then code_in 16 digits else (if nat_eq (length digits) 0 then simple_escape digit else None))) (lt-ltb (digit_value digit) 8 is.1.0)
    ∙ (ap (λ (test : Bool). if test then code_in 8 (digit ∷ digits) else None) (le-leb (length (digit ∷ digits)) 3 short) ∙ code-complete 8 (digit ∷ digits) is)

-- characters

plain-sound : (first : ℕ) (others : List ℕ) (code : ℕ) → (if is_plain first && nat_eq (length others) 0 then Some first else None) ≡ Some code → IsCharacter (first ∷ others) code
plain-sound first others code is = step (is_plain first && nat_eq (length others) 0) refl is
  where
    alone : (rest : List ℕ) → is_plain first && nat_eq (length rest) 0 ≡ true → IsCharacter (first ∷ rest) first
    alone [] e = Plain first (and_parts (is_plain first) true e).0
    alone (byte ∷ rest) e = let clash : false ≡ true = sym (longer byte rest) ∙ (and_parts (is_plain first) (nat_eq (length (byte ∷ rest)) 0) e).1 in absurd (cc clash)

    step : (test : Bool) → is_plain first && nat_eq (length others) 0 ≡ test → (if test then Some first else None) ≡ Some code → IsCharacter (first ∷ others) code
    step true e i = let same : first ≡ code = cc i in subst (IsCharacter (first ∷ others)) same (alone others e)
    step false e i = absurd (cc i)

character-sound : (bytes : List ℕ) (code : ℕ) → character bytes ≡ Some code → IsCharacter bytes code
character-sound [] code is = absurd (cc is)
character-sound (first ∷ others) code is = step (nat_eq first 92) refl is
  where
    step : (test : Bool) → nat_eq first 92 ≡ test → (if test then escape others else (if is_plain first && nat_eq (length others) 0 then Some first else None)) ≡ Some code → IsCharacter (first ∷ others) code
    step true e i = subst (λ (byte : ℕ). IsCharacter (byte ∷ others) code) (sym (eqb-true first 92 e)) (escape-sound others code i)
    step false e i = plain-sound first others code i

character-complete : (bytes : List ℕ) (code : ℕ) → IsCharacter bytes code → character bytes ≡ Some code
character-complete _ _ (Plain byte plain) =
    let none : nat_eq byte 39 || (nat_eq byte 92 || nat_eq byte 10) ≡ false = not-true (nat_eq byte 39 || (nat_eq byte 92 || nat_eq byte 10)) plain in
    let more : nat_eq byte 92 || nat_eq byte 10 ≡ false = (or_parts (nat_eq byte 39) (nat_eq byte 92 || nat_eq byte 10) none).1 in
    let other : nat_eq byte 92 ≡ false = (or_parts (nat_eq byte 92) (nat_eq byte 10) more).0 in
    ap (λ (test : Bool). if test then escape [] else (if is_plain byte && true then Some byte else None)) other
    ∙ ap (λ (test : Bool). if test && true then Some byte else None) plain
character-complete _ _ (SimpleEscape byte code is) = escape-simple byte code is
character-complete _ _ (OctalEscape digits is short) = escape-octal digits is short
character-complete _ _ (HexadecimalEscape digits is) = code-complete 16 digits is

-- quotes

quote-sound : (bytes front : List ℕ) → before_quote bytes ≡ Some front → bytes ≡ front ++ 39 ∷ []
quote-sound bytes front is = step (nat_lt 0 (length bytes) && nat_eq (get_or bytes (length bytes - 1) 0) 39) refl is
  where
    step : (test : Bool) → nat_lt 0 (length bytes) && nat_eq (get_or bytes (length bytes - 1) 0) 39 ≡ test → (if test then Some (take (length bytes - 1) bytes) else None) ≡ Some front → bytes ≡ front ++ 39 ∷ []
    step true e i =
        let parts : (nat_lt 0 (length bytes) ≡ true) × (nat_eq (get_or bytes (length bytes - 1) 0) 39 ≡ true) = and_parts (nat_lt 0 (length bytes)) (nat_eq (get_or bytes (length bytes - 1) 0) 39) e in
        let some : 0 < length bytes = ltb-true 0 (length bytes) parts.0 in
        let last : get_or bytes (length bytes - 1) 0 ≡ 39 = eqb-true (get_or bytes (length bytes - 1) 0) 39 parts.1 in
        let same : take (length bytes - 1) bytes ≡ front = cc i in
        sym (take_all (length bytes - 1 + 1) bytes (omega (arith, some)))
        ∙ (take_more bytes (length bytes - 1) 0 (omega (arith, some))
        ∙ (ap (λ (xs : List ℕ). xs ++ get_or bytes (length bytes - 1) 0 ∷ []) same ∙ ap (λ (byte : ℕ). front ++ byte ∷ []) last))
    step false e i = absurd (cc i)

quote-complete : (front : List ℕ) → before_quote (front ++ 39 ∷ []) ≡ Some front
quote-complete front =
    let bytes : List ℕ = front ++ 39 ∷ [] in
    let long : length bytes ≡ length front + 1 = length-append front (39 ∷ []) in
    let before : length bytes - 1 ≡ length front = omega (arith, long) in
    let some : nat_lt 0 (length bytes) ≡ true = lt-ltb 0 (length bytes) (omega (arith, long)) in
    ap (λ (n : ℕ). if nat_lt 0 (length bytes) && nat_eq (get_or bytes n 0) 39 then Some (take n bytes) else None) before
    ∙ (ap (λ (test : Bool). if test && nat_eq (get_or bytes (length front) 0) 39 then Some (take (length front) bytes) else None) some
    ∙ (ap (λ (byte : ℕ). if true && nat_eq byte 39 then Some (take (length front) bytes) else None) (get_or-append_seam front 39 [] 0)
    ∙ ap (λ (xs : List ℕ). Some xs) (take-append_seam front (39 ∷ []))))

-- constants

pub letter-sound : (others : List ℕ) (reading : Reading) → letter others ≡ Some reading → Reads (39 ∷ others) reading
unfolding letter
letter-sound others reading is = quoted (before_quote others) refl is
  where
    known : (front : List ℕ) (code : ℕ) → before_quote others ≡ Some front → character front ≡ Some code → IsLetter (39 ∷ others) code
    known front code e counts = record {
      character = front;
      whole = ap (λ (xs : List ℕ). 39 ∷ xs) (quote-sound others front e);
      counts = character-sound front code counts;
    }

    coded : (front : List ℕ) → before_quote others ≡ Some front → (o : Option ℕ) → character front ≡ o → option_map (λ code. Letter code) o ≡ Some reading → Reads (39 ∷ others) reading
    coded front e None c i = absurd (cc i)
    coded front e (Some code) c i = let same : Letter code ≡ reading = cc i in subst (Reads (39 ∷ others)) same (known front code e c)

    quoted : (o : Option (List ℕ)) → before_quote others ≡ o → option_map (λ code. Letter code) (option_and_then character o) ≡ Some reading → Reads (39 ∷ others) reading
    quoted None e i = absurd (cc i)
    quoted (Some front) e i = coded front e (character front) refl i

pub letter-complete : (spelling : List ℕ) (code : ℕ) → IsLetter spelling code → reading_of spelling ≡ Some (Letter code)
unfolding letter
letter-complete spelling code is =
    ap reading_of is.whole
    ∙ (ap (λ (o : Option (List ℕ)). option_map (λ code. Letter code) (option_and_then character o)) (quote-complete is.character)
    ∙ ap (λ (o : Option ℕ). option_map (λ code. Letter code) o) (character-complete is.character code is.counts))
