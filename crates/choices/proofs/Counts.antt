-- Which bytes stand in what was read: no newline within a line, no blank within a part of it.
use Rattle.std.proofs.Common.{◌≡◌, ℕ, ◌+◌, ◌/◌, ◌%◌, ◌^◌, ◌<◌, ◌≤◌, ◌==◌, true, false, List, [], ◌∷◌, ◌++◌, length, take, codes, cond, eqb, refl, ap, sym, ◌∙◌, subst, append_assoc, arith, nat_le, leb-true, eq-eqb, ne_eqb, count_by, zero-add}
use Rattle.std.specs.List.{All, flat_map, list_all}
use Rattle.std.specs.Fmt.{decimal, digit_glyph}
use Rattle.std.proofs.lemmas.List.{take-append-le}
use Rattle.std.proofs.lemmas.List.Elements.{All-nil, All-cons, All-head, All-tail, All-append, All-take}
use Rattle.std.proofs.lemmas.List.Sums.{sum_by-append, sum_by-cons}
use Rattle.std.proofs.lemmas.Bool.{and_parts, cond-true, cond-false}
use Rattle.choices.specs.declared.choice.Choice.{Choice}
use Rattle.choices.specs.declared.word.Word.{Word}
use Rattle.choices.specs.declared.word.Word.TheVariants.{None, Input, Block}
use Rattle.cbase.specs.Bytes.{is_digit}
use Rattle.choices.specs.Format.{two_digits}
use Rattle.choices.specs.Written.{written, HasLine}
use Rattle.choices.specs.Reading.{letters}
use Rattle.choices.specs.Answers.{behind_last}
use Rattle.choices.proofs.Digits.{between}
use Rattle.choices.proofs.Numbers.{decimal_spells}
use Rattle.choices.proofs.Texts.{written_line}
use Rattle.choices.proofs.Complete.{glyph_at_least}

-- how many bytes of a value there are
abbrev pub count : ℕ → List ℕ → ℕ
count value xs = count_by (λ other. other == value) xs

-- bytes of which none is a control byte, a blank or a hyphen
abbrev pub High : List ℕ → Type 0
High xs = All (λ byte. 48 ≤ byte) xs

pub count-append : (value : ℕ) (xs ys : List ℕ) → count value (xs ++ ys) ≡ count value xs + count value ys
count-append value xs ys = sum_by-append (λ other. cond (eqb other value) 1 0) xs ys

count-cons : (value x : ℕ) (xs : List ℕ) → count value (x ∷ xs) ≡ cond (eqb x value) 1 0 + count value xs
count-cons value x xs = sum_by-cons (λ other. cond (eqb other value) 1 0) x xs

count-other : (value x : ℕ) (xs : List ℕ) → (x ≡ value → ⊥) → count value (x ∷ xs) ≡ count value xs
count-other value x xs other =
    count-cons value x xs ∙ ap (λ (n : ℕ). n + count value xs) (cond-false (eqb x value) 1 0 (ne_eqb x value other)) ∙ zero-add (count value xs)

count-here : (value : ℕ) (xs : List ℕ) → count value (value ∷ xs) ≡ 1 + count value xs
count-here value xs = count-cons value value xs ∙ ap (λ (n : ℕ). n + count value xs) (cond-true (eqb value value) 1 0 (eq-eqb value value refl))

pub count_high : (value : ℕ) (xs : List ℕ) → value < 48 → High xs → count value xs ≡ 0
count_high value [] low high = refl
count_high value (x ∷ xs) low high =
    let first : 48 ≤ x = All-head (λ byte. 48 ≤ byte) x xs high in
    count-other value x xs (λ same. omega arith) ∙ count_high value xs low (All-tail (λ byte. 48 ≤ byte) x xs high)

-- ---- behind the last byte of a value

pub behind_none : (value : ℕ) (xs : List ℕ) → count value xs ≡ 0 → behind_last value xs ≡ xs
behind_none value [] none = refl
behind_none value (x ∷ xs) none = cond-true (eqb (count value (x ∷ xs)) 0) (x ∷ xs) (behind_last value xs) (eq-eqb (count value (x ∷ xs)) 0 none)

pub behind_past : (value : ℕ) (xs ys : List ℕ) → behind_last value (xs ++ value ∷ ys) ≡ behind_last value ys
behind_past value [] ys =
    cond-false (eqb (count value (value ∷ ys)) 0) (value ∷ ys) (behind_last value ys)
    (ne_eqb (count value (value ∷ ys)) 0 (λ none. absurd (omega (arith, count-here value ys))))
behind_past value (x ∷ xs) ys =
    cond-false (eqb (count value (x ∷ (xs ++ value ∷ ys))) 0) (x ∷ (xs ++ value ∷ ys)) (behind_last value (xs ++ value ∷ ys))
    (ne_eqb (count value (x ∷ (xs ++ value ∷ ys))) 0 (λ none. absurd (omega (arith, count-append value (x ∷ xs) (value ∷ ys), count-here value ys))))
    ∙ behind_past value xs ys

-- ---- high bytes

high_test : (xs : List ℕ) → list_all (λ byte. nat_le 48 byte) xs ≡ true → High xs
high_test [] is = All-nil (λ byte. 48 ≤ byte)
high_test (x ∷ xs) is =
    let parts = and_parts (nat_le 48 x) (list_all (λ byte. nat_le 48 byte) xs) is in
    All-cons (λ byte. 48 ≤ byte) x xs (leb-true 48 x parts.0) (high_test xs parts.1)

high_digits : (xs : List ℕ) → list_all is_digit xs ≡ true → High xs
high_digits [] is = All-nil (λ byte. 48 ≤ byte)
high_digits (x ∷ xs) is =
    let parts = and_parts (is_digit x) (list_all is_digit xs) is in
    let first = between 48 57 x parts.0 in
    All-cons (λ byte. 48 ≤ byte) x xs first.0 (high_digits xs parts.1)

pub high_decimal : (n : ℕ) → n < 2 ^ 64 → High (decimal n)
high_decimal n small = high_digits (decimal n) (decimal_spells n small).digits

pub high_glyph : (v : ℕ) → v < 16 → High (digit_glyph false v ∷ [])
high_glyph v small = All-cons (λ byte. 48 ≤ byte) (digit_glyph false v) [] (glyph_at_least v small) (All-nil (λ byte. 48 ≤ byte))

pub high_contents : (bytes : List ℕ) → All (λ byte. byte < 256) bytes → High (flat_map two_digits bytes)
high_contents [] all = All-nil (λ byte. 48 ≤ byte)
high_contents (byte ∷ bytes) all =
    let small : byte < 256 = All-head (λ byte. byte < 256) byte bytes all in
    let low : byte % 16 < 16 = omega arith in
    let high : byte / 16 < 16 = omega arith in
    All-append (λ byte. 48 ≤ byte) (digit_glyph false (byte / 16) ∷ []) (digit_glyph false (byte % 16) ∷ flat_map two_digits bytes) (high_glyph (byte / 16) high)
    (All-append (λ byte. 48 ≤ byte) (digit_glyph false (byte % 16) ∷ []) (flat_map two_digits bytes) (high_glyph (byte % 16) low)
    (high_contents bytes (All-tail (λ byte. byte < 256) byte bytes all)))

-- a word that is not read to its end
abbrev stem : Word → List ℕ
stem None = codes "none"
stem Input = codes "input"
stem Block = codes "block"

high_stem : (word : Word) → High (stem word)
high_stem None = high_test (codes "none") refl
high_stem Input = high_test (codes "input") refl
high_stem Block = high_test (codes "block") refl

take_stem : (word : Word) (read : ℕ) → read < length (letters word) → take read (letters word) ≡ take read (stem word)
take_stem None read within = take-append-le read (codes "none") (codes "\n") (omega arith)
take_stem Input read within = take-append-le read (codes "input") (codes " ") (omega arith)
take_stem Block read within = take-append-le read (codes "block") (codes " ") (omega arith)

pub high_word : (word : Word) (read : ℕ) → read < length (letters word) → High (take read (letters word))
high_word word read within =
    subst High (sym (take_stem word read within)) (All-take (λ byte. 48 ≤ byte) read (stem word) (high_stem word))

-- ---- the line that is not read to its end

pub behind_lines : (choices : List Choice) (text : List ℕ) → All HasLine choices → behind_last 10 (written choices ++ text) ≡ behind_last 10 text
behind_lines [] text all = refl
behind_lines (choice ∷ choices) text all =
    let line = written_line choice (All-head HasLine choice choices all) in
    ap (λ (w : List ℕ). behind_last 10 ((w ++ written choices) ++ text)) (sym line.2)
    ∙ ap (λ (w : List ℕ). behind_last 10 w)
    (append_assoc (line.0 ++ codes "\n") (written choices) text ∙ append_assoc line.0 (codes "\n") (written choices ++ text))
    ∙ behind_past 10 line.0 (written choices ++ text)
    ∙ behind_lines choices text (All-tail HasLine choice choices all)
