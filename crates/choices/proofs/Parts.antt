-- What was read of a line, and that a byte that is read stands behind it.
use Rattle.std.proofs.Common.{◌≡◌, ℕ, ◌+◌, ◌*◌, ◌-◌, ◌^◌, ◌<◌, ◌≤◌, ◌==◌, false, List, [], ◌∷◌, ◌++◌, length, take, get_or, codes, refl, ap, sym, ◌∙◌, subst, append_assoc, add-one, arith, nat_le, nat_lt, eqb-true, ltb-true, ltb-false, leb-false, lit<, Option}
use Rattle.std.specs.List.{All, flat_map}
use Rattle.std.specs.Fmt.{decimal, digit_glyph}
use Rattle.std.proofs.lemmas.Fmt.{decimal_digit}
use Rattle.std.proofs.lemmas.List.{append-nil, take_all, length-append}
use Rattle.std.proofs.lemmas.Grind.{flat_map-append}
use Rattle.std.proofs.lemmas.List.Elements.{All-nil, All-push}
use Rattle.std.proofs.lemmas.Bool.{cond_both}
use Rattle.std.proofs.Math.Seq.{take-suc}
use Rattle.choices.specs.declared.choice.Choice.{Choice}
use Rattle.choices.specs.declared.choice.Choice.TheVariants as choice
use Rattle.choices.specs.declared.word.Word.{Word}
use Rattle.choices.specs.declared.word.Word.TheVariants.{None, Input, Block}
use Rattle.choices.specs.declared.number.Number.{Number}
use Rattle.choices.specs.declared.number.Number.TheVariants.{Input as OfInput, Base}
use Rattle.choices.specs.declared.part.Part.{Part}
use Rattle.choices.specs.declared.part.Part.TheVariants.{Begin, InWord, First, Digits, Contents, Hyphen, Half, Whole}
use Rattle.choices.specs.declared.part.Step.{Step}
use Rattle.choices.specs.declared.part.Step.TheVariants.{Refuse, Go, Byte, EndNone, EndInput, EndBlock}
use Rattle.choices.specs.Format.{AreContents, two_digits}
use Rattle.choices.specs.Written.{line_of, HasLine}
use Rattle.choices.specs.Reading.{letters, next, begun, word_read, word_step, goes_on, digit_of, number_read, number_step, end_of, contents_step, low_of, low_step, whole_step}
use Rattle.cbase.specs.Bytes.{is_digit}
use Rattle.choices.proofs.Digits.{digit_is, hex_both, decimal_more, with_digit_both, two_digits_of}

-- the word before a number
abbrev pub word_of : Number → List ℕ
word_of OfInput = codes "input "
word_of Base = codes "block "

-- a block's line before its contents
abbrev pub base_text : ℕ → List ℕ
base_text base = codes "block " ++ (decimal base ++ codes " ")

-- the bytes that were read of a line
abbrev pub part_text : Part → List ℕ → List ℕ
part_text Begin contents = []
part_text (InWord word read) contents = take read (letters word)
part_text (First number) contents = word_of number
part_text (Digits number value) contents = word_of number ++ decimal value
part_text (Contents base) contents = base_text base
part_text (Hyphen base) contents = base_text base ++ codes "-"
part_text (Half base high) contents = base_text base ++ (flat_map two_digits contents ++ digit_glyph false high ∷ [])
part_text (Whole base) contents = base_text base ++ flat_map two_digits contents

-- what is known of a part, with the bytes that were read of contents
abbrev pub IsFor : Part → List ℕ → Type 0
IsFor Begin contents = contents ≡ []
IsFor (InWord word read) contents = (read < length (letters word)) × (contents ≡ [])
IsFor (First number) contents = contents ≡ []
IsFor (Digits number value) contents = (value < 2 ^ 64) × (contents ≡ [])
IsFor (Contents base) contents = (base < 2 ^ 64) × (contents ≡ [])
IsFor (Hyphen base) contents = (base < 2 ^ 64) × (contents ≡ [])
IsFor (Half base high) contents = (base < 2 ^ 64) × (high < 16) × All (λ byte. byte < 256) contents × (length contents < 65536)
IsFor (Whole base) contents = (base < 2 ^ 64) × (0 < length contents) × AreContents contents

-- a line ends with a byte
pub record EndsLine (part : Part) (contents : List ℕ) (byte : ℕ) (ended : Choice) : Type 0 where
  pub has_line : HasLine ended
  pub text : line_of ended ≡ part_text part contents ++ byte ∷ []

-- a step reads the byte
abbrev pub Reads : Part → List ℕ → ℕ → Step → Type 0
Reads part contents byte Refuse = Unit {0}
Reads part contents byte (Go part') = IsFor part' contents × (part_text part' contents ≡ part_text part contents ++ byte ∷ [])
Reads part contents byte (Byte base whole) =
    IsFor (Whole base) (contents ++ whole ∷ []) × (part_text (Whole base) (contents ++ whole ∷ []) ≡ part_text part contents ++ byte ∷ [])
Reads part contents byte EndNone = EndsLine part contents byte choice.None × (contents ≡ [])
Reads part contents byte (EndInput number) = EndsLine part contents byte (choice.Input number) × (contents ≡ [])
Reads part contents byte (EndBlock base) = EndsLine part contents byte (choice.Block base contents)

lit_word : (word : Word) → 1 < length (letters word)
lit_word None = lit< tt
lit_word Input = lit< tt
lit_word Block = lit< tt

begun_reads : (contents : List ℕ) (byte : ℕ) → contents ≡ [] → Reads Begin contents byte (begun byte)
begun_reads contents byte none =
    let P : Step → Type 0 = Reads Begin contents byte in
    let one : (first : ℕ) → byte ≡ first → first ∷ [] ≡ byte ∷ [] = λ first is. ap (λ (b : ℕ). b ∷ []) (sym is) in
    cond_both (byte == 110) _ _ P (λ is. ((lit_word None, none), one 110 (eqb-true byte 110 is)))
    (λ is_not. cond_both (byte == 105) _ _ P (λ is. ((lit_word Input, none), one 105 (eqb-true byte 105 is)))
    (λ is_not. cond_both (byte == 98) _ _ P (λ is. ((lit_word Block, none), one 98 (eqb-true byte 98 is)))
    (λ is_not. tt)))

-- the bytes of a word up to one of them
word_more : (word : Word) (read byte : ℕ) → read < length (letters word) → get_or (letters word) read 0 ≡ byte → take (read + 1) (letters word) ≡ take read (letters word) ++ byte ∷ []
word_more word read byte within is =
    ap (λ (n : ℕ). take n (letters word)) (add-one read)
    ∙ take-suc (letters word) read 0 within
    ∙ ap (λ (b : ℕ). take read (letters word) ++ b ∷ []) is

word_read_reads : (word : Word) (read byte : ℕ) (contents : List ℕ) → contents ≡ [] → letters word ≡ take read (letters word) ++ byte ∷ [] → Reads (InWord word read) contents byte (word_read word)
word_read_reads None read byte contents none is = (record { has_line = tt; text = is }, none)
word_read_reads Input read byte contents none is = (none, is)
word_read_reads Block read byte contents none is = (none, is)

word_reads : (word : Word) (read byte : ℕ) (contents : List ℕ) → read < length (letters word) → contents ≡ [] → Reads (InWord word read) contents byte (word_step word read byte)
word_reads word read byte contents within none =
    let P : Step → Type 0 = Reads (InWord word read) contents byte in
    cond_both (get_or (letters word) read 0 == byte) _ _ P
    (λ is.
    let more = word_more word read byte within (eqb-true (get_or (letters word) read 0) byte is) in
    cond_both (nat_lt (read + 1) (length (letters word))) _ _ P
    (λ less. ((ltb-true (read + 1) (length (letters word)) less, none), more))
    (λ last.
    let all : length (letters word) ≤ read + 1 = ltb-false (read + 1) (length (letters word)) last in
    word_read_reads word read byte contents none (sym (take_all (read + 1) (letters word) all) ∙ more)))
    (λ is_not. tt)

number_read_reads : (number : Number) (value : ℕ) (contents : List ℕ) → value < 2 ^ 64 → contents ≡ [] → Reads (Digits number value) contents (end_of number) (number_read number value)
number_read_reads OfInput value contents small none = (record { has_line = small; text = refl }, none)
number_read_reads Base value contents small none = ((small, none), refl)

number_reads : (number : Number) (value byte : ℕ) (contents : List ℕ) → value < 2 ^ 64 → contents ≡ [] → Reads (Digits number value) contents byte (number_step number value byte)
number_reads number value byte contents small none =
    let P : Step → Type 0 = Reads (Digits number value) contents byte in
    cond_both (is_digit byte) _ _ P
    (λ is.
    let d = digit_is byte is in
    with_digit_both (λ o. P (goes_on (Digits number) o)) value (byte - 48)
    (λ some fits. (
      (fits, none),
      ap (λ (w : List ℕ). word_of number ++ w) (decimal_more value (byte - 48) some d.0 fits ∙ ap (λ (b : ℕ). decimal value ++ b ∷ []) (sym d.1))
          ∙ sym (append_assoc (word_of number) (decimal value) (byte ∷ [])),
    ))
    tt)
    (λ is_not. cond_both (byte == end_of number) _ _ P
    (λ is. subst (λ (b : ℕ). Reads (Digits number value) contents b (number_read number value)) (sym (eqb-true byte (end_of number) is)) (number_read_reads number value contents small none))
    (λ other. tt))

first_reads : (number : Number) (byte : ℕ) (contents : List ℕ) → contents ≡ [] → Reads (First number) contents byte (goes_on (Digits number) (digit_of byte))
first_reads number byte contents none =
    let P = λ (o : Option ℕ). Reads (First number) contents byte (goes_on (Digits number) o) in
    cond_both (is_digit byte) _ _ P
    (λ is.
    let d = digit_is byte is in
    let small : byte - 48 < 10 = d.0 in
    ((omega arith, none), ap (λ (w : List ℕ). word_of number ++ w) (decimal_digit (byte - 48) small ∙ ap (λ (b : ℕ). b ∷ []) (sym d.1))))
    (λ is_not. tt)

contents_reads : (base byte : ℕ) (contents : List ℕ) → base < 2 ^ 64 → contents ≡ [] → Reads (Contents base) contents byte (contents_step base byte)
contents_reads base byte (some ∷ more) small none = absurd (cc)
contents_reads base byte [] small none =
    let P : Step → Type 0 = Reads (Contents base) [] byte in
    cond_both (byte == 45) _ _ P
    (λ is. ((small, refl), ap (λ (b : ℕ). base_text base ++ b ∷ []) (sym (eqb-true byte 45 is))))
    (λ is_not. hex_both (λ o. P (goes_on (Half base) o)) byte
    (λ v less is. ((small, less, All-nil (λ byte. byte < 256), omega arith), ap (λ (b : ℕ). base_text base ++ b ∷ []) (sym is)))
    tt)

hyphen_reads : (base byte : ℕ) (contents : List ℕ) → base < 2 ^ 64 → contents ≡ [] → Reads (Hyphen base) contents byte (next (Hyphen base) false byte)
hyphen_reads base byte (some ∷ more) small none = absurd (cc)
hyphen_reads base byte [] small none =
    cond_both (byte == 10) _ _ (Reads (Hyphen base) [] byte)
    (λ is. record {
      has_line = (small, record { are_bytes = All-nil (λ byte. byte < 256); few = omega arith });
      text = simp append_assoc (ap (λ (b : ℕ). codes "block " ++ (decimal base ++ (32 ∷ (45 ∷ (b ∷ []))))) (sym (eqb-true byte 10 is)));
    })
    (λ is_not. tt)

pub half_reads : (base high byte : ℕ) (contents : List ℕ) → IsFor (Half base high) contents → Reads (Half base high) contents byte (low_step base high byte)
half_reads base high byte contents is =
    hex_both (λ o. Reads (Half base high) contents byte (low_of base high o)) byte
    (λ low less is_low.
    let high_less : high < 16 = is.1 in
    let room : length contents < 65536 = is.3 in
    let more : length (contents ++ (16 * high + low) ∷ []) ≡ length contents + 1 = length-append contents ((16 * high + low) ∷ []) in
    let digits : flat_map two_digits (contents ++ (16 * high + low) ∷ []) ≡ flat_map two_digits contents ++ (digit_glyph false high ∷ (byte ∷ [])) =
    flat_map-append two_digits contents ((16 * high + low) ∷ [])
    ∙ ap (λ (w : List ℕ). flat_map two_digits contents ++ w) (append-nil (two_digits (16 * high + low)) ∙ two_digits_of high low high_less less ∙ ap (λ (b : ℕ). digit_glyph false high ∷ (b ∷ [])) (sym is_low)) in (
      (is.0, omega arith, record { are_bytes = All-push (λ byte. byte < 256) contents (16 * high + low) is.2 (omega arith); few = omega arith }),
      ap (λ (w : List ℕ). base_text base ++ w) digits
          ∙ sym (append_assoc (base_text base) (flat_map two_digits contents ++ digit_glyph false high ∷ []) (byte ∷ [])
          ∙ ap (λ (w : List ℕ). base_text base ++ w) (append_assoc (flat_map two_digits contents) (digit_glyph false high ∷ []) (byte ∷ []))),
    ))
    tt

pub whole_ends : (base : ℕ) (contents : List ℕ) → 0 < length contents → line_of (choice.Block base contents) ≡ part_text (Whole base) contents ++ 10 ∷ []
whole_ends base [] some = absurd (omega arith)
whole_ends base (first ∷ rest) some = simp append_assoc

whole_reads : (base byte : ℕ) (contents : List ℕ) → IsFor (Whole base) contents → Reads (Whole base) contents byte (whole_step base (nat_le 65536 (length contents)) byte)
whole_reads base byte contents is =
    let P : Step → Type 0 = Reads (Whole base) contents byte in
    cond_both (byte == 10) _ _ P
    (λ end. record {
      has_line = (is.0, is.2);
      text = whole_ends base contents is.1 ∙ ap (λ (b : ℕ). part_text (Whole base) contents ++ b ∷ []) (sym (eqb-true byte 10 end));
    })
    (λ is_not. cond_both (nat_le 65536 (length contents)) _ _ P
    (λ full. tt)
    (λ room. hex_both (λ o. P (goes_on (Half base) o)) byte
    (λ v less same. (
      (is.0, less, is.2.are_bytes, leb-false 65536 (length contents) room),
      ap (λ (b : ℕ). base_text base ++ (flat_map two_digits contents ++ b ∷ [])) (sym same) ∙ sym (append_assoc (base_text base) (flat_map two_digits contents) (byte ∷ [])),
    ))
    tt))

-- each step reads its byte
pub next_reads : (part : Part) (contents : List ℕ) (byte : ℕ) → IsFor part contents → Reads part contents byte (next part (nat_le 65536 (length contents)) byte)
next_reads Begin contents byte is = begun_reads contents byte is
next_reads (InWord word read) contents byte is = word_reads word read byte contents is.0 is.1
next_reads (First number) contents byte is = first_reads number byte contents is
next_reads (Digits number value) contents byte is = number_reads number value byte contents is.0 is.1
next_reads (Contents base) contents byte is = contents_reads base byte contents is.0 is.1
next_reads (Hyphen base) contents byte is = hyphen_reads base byte contents is.0 is.1
next_reads (Half base high) contents byte is = half_reads base high byte contents is
next_reads (Whole base) contents byte is = whole_reads base byte contents is
