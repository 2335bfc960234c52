-- What is written is read.
use Rattle.std.proofs.Common.{◌≡◌, ℕ, ◌+◌, ◌*◌, ◌-◌, ◌/◌, ◌%◌, ◌^◌, ◌<◌, ◌≤◌, ◌==◌, false, List, [], ◌∷◌, ◌++◌, length, suc, codes, length-append, ◌⊎◌, inl, inr, refl, ap, sym, ◌∙◌, append_assoc, arith, nat_le, Option, Some, None}
use Rattle.std.specs.List.{All, flat_map}
use Rattle.std.specs.Fmt.{decimal, digit_glyph}
use Rattle.std.proofs.lemmas.Fmt.{decimal_by_steps}
use Rattle.std.proofs.lemmas.List.{append-nil}
use Rattle.std.proofs.lemmas.List.Elements.{All-head, All-tail}
use Rattle.std.proofs.lemmas.Bool.{cond-true, cond-false, ne_eqb, lt-leb, cases_lt}
use Rattle.choices.specs.declared.choice.Choice.{Choice}
use Rattle.choices.specs.declared.choice.Choice.TheVariants as choice
use Rattle.choices.specs.declared.number.Number.{Number}
use Rattle.choices.specs.declared.number.Number.TheVariants.{Input as OfInput, Base}
use Rattle.choices.specs.declared.part.Part.{Part}
use Rattle.choices.specs.declared.part.Part.TheVariants.{Begin, First, Digits, Contents, Half, Whole}
use Rattle.choices.specs.declared.part.Step.{Step}
use Rattle.choices.specs.declared.part.Step.TheVariants.{Go}
use Rattle.choices.specs.declared.reader.Reader.{Reader}
use Rattle.cbase.specs.Bytes.{is_digit}
use Rattle.choices.specs.Format.{SpellsChoices, AreContents, two_digits, contents_text}
use Rattle.choices.specs.Written.{line_of, written, HasLine}
use Rattle.choices.specs.Reading.{goes_on, digit_of, with_digit, number_step, contents_step, low_of, hex_value, whole_step}
use Rattle.choices.specs.Run.{Turn, Goes, after, step, then_read, run, start}
use Rattle.choices.proofs.Digits.{is_digit_of, with_digit_is, hex_of_glyph, glyph_low, glyph_high}
use Rattle.choices.proofs.Texts.{spelled_written}
use Rattle.choices.proofs.Fronts.{run_then}

-- a reader at a part of a line
abbrev pub reading : List Choice → Part → List ℕ → Reader
reading choices part contents = record { choices = choices; contents = contents; part = part }

-- ---- numbers

first_step : (number : Number) (digit : ℕ) → digit < 10 → goes_on (Digits number) (digit_of (48 + digit)) ≡ Go (Digits number digit)
first_step number digit small =
    ap (λ (o : Option ℕ). goes_on (Digits number) o)
    (cond-true (is_digit (48 + digit)) (Some (48 + digit - 48)) None (is_digit_of digit small) ∙ ap (λ (n : ℕ). Some n) (omega arith))

more_step : (number : Number) (value digit : ℕ) → 0 < value → digit < 10 → 10 * value + digit < 2 ^ 64 → number_step number value (48 + digit) ≡ Go (Digits number (10 * value + digit))
more_step number value digit some small fits =
    let same : 48 + digit - 48 ≡ digit = omega arith in
    cond-true (is_digit (48 + digit)) (goes_on (Digits number) (with_digit value (48 + digit - 48)))
    _ (is_digit_of digit small)
    ∙ ap (λ (n : ℕ). goes_on (Digits number) (with_digit value n)) same
    ∙ ap (λ (o : Option ℕ). goes_on (Digits number) o) (with_digit_is value digit some fits)

-- a byte is read by a step
by_step : (choices : List Choice) (part : Part) (contents : List ℕ) (byte : ℕ) (done : Step) (next : Step) → next ≡ done
    → then_read (after (reading choices part contents) next) (λ last. run last []) ≡ then_read (after (reading choices part contents) done) (λ last. run last [])
by_step choices part contents byte done next is = ap (λ (s : Step). then_read (after (reading choices part contents) s) (λ last. run last [])) is

digits_run : (choices : List Choice) (number : Number) (n : ℕ) → n < 2 ^ 64 → run (reading choices (First number) []) (decimal n) ≡ Goes (reading choices (Digits number n) [])
digits_run choices number n small =
    decimal_by_steps (λ k ds. k < 2 ^ 64 → run (reading choices (First number) []) ds ≡ Goes (reading choices (Digits number k) []))
    (λ k less fits. by_step choices (First number) [] (48 + k) _ _ (first_step number k less))
    (λ k ds large before fits.
    let quotient : k / 10 < 2 ^ 64 = omega arith in
    let some : 0 < k / 10 = omega arith in
    let rest : k % 10 < 10 = omega arith in
    let same : 10 * (k / 10) + k % 10 ≡ k = omega arith in
    run_then (reading choices (First number) []) ds ((48 + k % 10) ∷ []) (reading choices (Digits number (k / 10)) []) _ (before quotient)
    (by_step choices (Digits number (k / 10)) [] (48 + k % 10) _ _ (more_step number (k / 10) (k % 10) some rest (omega arith))
    ∙ ap (λ (v : ℕ). Goes (reading choices (Digits number v) [])) same))
    n small small

-- ---- contents

glyph_cases : (v : ℕ) → ((v < 10) ⊎ (10 ≤ v)) → 48 ≤ digit_glyph false v
glyph_cases v (inl low) = rw (glyph_low v low) (omega arith)
glyph_cases v (inr high) = rw (glyph_high v high) (omega arith)

pub glyph_at_least : (v : ℕ) → v < 16 → 48 ≤ digit_glyph false v
glyph_at_least v small = glyph_cases v (cases_lt v 10)

first_digit : (base byte v : ℕ) → 48 ≤ byte → hex_value byte ≡ Some v → contents_step base byte ≡ Go (Half base v)
first_digit base byte v large is =
    cond-false (byte == 45) _ (goes_on (Half base) (hex_value byte)) (ne_eqb byte 45 (λ same. omega arith)) ∙ ap (λ (o : Option ℕ). goes_on (Half base) o) is

pub next_digit : (base byte v held : ℕ) → 48 ≤ byte → hex_value byte ≡ Some v → held < 65536 → whole_step base (nat_le 65536 held) byte ≡ Go (Half base v)
next_digit base byte v held large is room =
    cond-false (byte == 10) _ _ (ne_eqb byte 10 (λ same. omega arith))
    ∙ cond-false (nat_le 65536 held) _ (goes_on (Half base) (hex_value byte)) (lt-leb 65536 held room)
    ∙ ap (λ (o : Option ℕ). goes_on (Half base) o) is

-- both digits of a byte
byte_run : (choices : List Choice) (base : ℕ) (part : Part) (held : List ℕ) (byte : ℕ) → byte < 256
    → step (reading choices part held) (digit_glyph false (byte / 16)) ≡ Goes (reading choices (Half base (byte / 16)) held)
    → run (reading choices part held) (two_digits byte) ≡ Goes (reading choices (Whole base) (held ++ byte ∷ []))
byte_run choices base part held byte small first =
    let low : byte % 16 < 16 = omega arith in
    let same : 16 * (byte / 16) + byte % 16 ≡ byte = omega arith in
    ap (λ (t : Turn). then_read t (λ next. run next (digit_glyph false (byte % 16) ∷ []))) first
    ∙ by_step choices (Half base (byte / 16)) held (digit_glyph false (byte % 16)) _ _ (ap (λ (o : Option ℕ). low_of base (byte / 16) o) (hex_of_glyph (byte % 16) low))
    ∙ ap (λ (b : ℕ). Goes (reading choices (Whole base) (held ++ b ∷ []))) same

bytes_run : (choices : List Choice) (base : ℕ) (held bytes : List ℕ) → All (λ byte. byte < 256) bytes → length held + length bytes ≤ 65536
    → run (reading choices (Whole base) held) (flat_map two_digits bytes) ≡ Goes (reading choices (Whole base) (held ++ bytes))
bytes_run choices base held [] all room = ap (λ (w : List ℕ). Goes (reading choices (Whole base) w)) (sym (append-nil held))
bytes_run choices base held (byte ∷ bytes) all room =
    let small : byte < 256 = All-head (λ byte. byte < 256) byte bytes all in
    let high : byte / 16 < 16 = omega arith in
    let longer : length (held ++ byte ∷ []) ≡ length held + 1 = length-append held (byte ∷ []) in
    run_then (reading choices (Whole base) held) (two_digits byte) (flat_map two_digits bytes) (reading choices (Whole base) (held ++ byte ∷ [])) _
    (byte_run choices base (Whole base) held byte small
    (ap (λ (s : Step). after (reading choices (Whole base) held) s) (next_digit base (digit_glyph false (byte / 16)) (byte / 16) (length held) (glyph_at_least (byte / 16) high) (hex_of_glyph (byte / 16) high) (omega arith))))
    (bytes_run choices base (held ++ byte ∷ []) bytes (All-tail (λ byte. byte < 256) byte bytes all) (omega arith)
    ∙ ap (λ (w : List ℕ). Goes (reading choices (Whole base) w)) (append_assoc held (byte ∷ []) bytes))

-- contents of one byte or more
pub filled_run : (choices : List Choice) (base byte : ℕ) (bytes : List ℕ) → AreContents (byte ∷ bytes)
    → run (reading choices (Contents base) []) (flat_map two_digits (byte ∷ bytes)) ≡ Goes (reading choices (Whole base) (byte ∷ bytes))
filled_run choices base byte bytes are =
    let small : byte < 256 = All-head (λ byte. byte < 256) byte bytes are.are_bytes in
    let high : byte / 16 < 16 = omega arith in
    let few : suc (length bytes) ≤ 65536 = are.few in
    let first = byte_run choices base (Contents base) [] byte small
    (ap (λ (s : Step). after (reading choices (Contents base) []) s) (first_digit base (digit_glyph false (byte / 16)) (byte / 16) (glyph_at_least (byte / 16) high) (hex_of_glyph (byte / 16) high))) in
    let more = bytes_run choices base (byte ∷ []) bytes (All-tail (λ byte. byte < 256) byte bytes are.are_bytes) (omega arith) in
    run_then (reading choices (Contents base) []) (two_digits byte) (flat_map two_digits bytes) (reading choices (Whole base) (byte ∷ [])) _ first more

-- a line of a block behind its base
contents_run : (choices : List Choice) (base : ℕ) (bytes : List ℕ) → AreContents bytes
    → run (reading choices (Contents base) []) (contents_text bytes ++ codes "\n") ≡ Goes (reading (choices ++ choice.Block base bytes ∷ []) Begin [])
contents_run choices base [] are = refl
contents_run choices base (byte ∷ bytes) are =
    run_then (reading choices (Contents base) []) (flat_map two_digits (byte ∷ bytes)) (codes "\n") (reading choices (Whole base) (byte ∷ bytes)) _ (filled_run choices base byte bytes are) refl

-- ---- lines

line_run : (choices : List Choice) (last : Choice) → HasLine last → run (reading choices Begin []) (line_of last) ≡ Goes (reading (choices ++ last ∷ []) Begin [])
line_run choices choice.None has = refl
line_run choices (choice.Input number) has =
    run_then (reading choices (First OfInput) []) (decimal number) (codes "\n") (reading choices (Digits OfInput number) []) _ (digits_run choices OfInput number has) refl
line_run choices (choice.Block base bytes) has =
    run_then (reading choices (First Base) []) (decimal base) (codes " " ++ (contents_text bytes ++ codes "\n")) (reading choices (Digits Base base) []) _ (digits_run choices Base base has.0)
    (contents_run choices base bytes has.1)

pub written_run : (choices more : List Choice) → All HasLine more → run (reading choices Begin []) (written more) ≡ Goes (reading (choices ++ more) Begin [])
written_run choices [] all = ap (λ (w : List Choice). Goes (reading w Begin [])) (sym (append-nil choices))
written_run choices (last ∷ more) all =
    run_then (reading choices Begin []) (line_of last) (written more) (reading (choices ++ last ∷ []) Begin []) _ (line_run choices last (All-head HasLine last more all))
    (written_run (choices ++ last ∷ []) more (All-tail HasLine last more all)
    ∙ ap (λ (w : List Choice). Goes (reading w Begin [])) (append_assoc choices (last ∷ []) more))

-- a text that spells choices is read to its end
pub spelled_run : (text : List ℕ) (choices : List Choice) → SpellsChoices text choices → run start text ≡ Goes (reading choices Begin [])
spelled_run text choices s =
    let w = spelled_written text choices s in
    ap (λ (t : List ℕ). run start t) w.0 ∙ written_run [] choices w.1
