-- Why a text is refused.
use Rattle.std.proofs.Common.{◌≡◌, ℕ, ◌+◌, ◌*◌, ◌-◌, ◌^◌, ◌<◌, ◌≤◌, ◌==◌, ◌⊎◌, inl, inr, Bool, true, false, List, [], ◌∷◌, ◌++◌, length, take, get_or, codes, refl, ap, sym, ◌∙◌, subst, append_assoc, add-zero, zero-add, length-append, arith, nat_le, eqb-true, Option, Some, None, is_some, if◌then◌else◌, ◌||◌}
use Rattle.std.specs.List.{All, flat_map}
use Rattle.std.specs.Fmt.{decimal, digit_glyph}
use Rattle.std.proofs.lemmas.Fmt.{decimal_digit, digits_value-decimal}
use Rattle.std.proofs.lemmas.List.{append-nil, take_more}
use Rattle.std.proofs.lemmas.List.Elements.{All-append}
use Rattle.std.proofs.lemmas.Bool.{cond_both, cond-true, cond-false, cases_lt, cases_Bool, or_parts, both_ways}
use Rattle.choices.specs.declared.choice.Choice.{Choice}
use Rattle.choices.specs.declared.number.Number.{Number}
use Rattle.choices.specs.declared.number.Number.TheVariants.{Input as OfInput, Base}
use Rattle.choices.specs.declared.part.Part.{Part}
use Rattle.choices.specs.declared.part.Part.TheVariants.{Begin, InWord, First, Digits, Contents, Hyphen, Half, Whole}
use Rattle.choices.specs.declared.part.Step.{Step}
use Rattle.choices.specs.declared.part.Step.TheVariants.{Go}
use Rattle.choices.specs.declared.reader.Reader.{Reader}
use Rattle.choices.specs.declared.refusal.Refusal.{Refusal}
use Rattle.choices.specs.declared.refusal.Refusal.TheVariants as refusal
use Rattle.cbase.specs.Bytes.{is_between, is_digit, decimal_value}
use Rattle.choices.specs.Format.{SpellsChoices, two_digits}
use Rattle.choices.specs.Written.{written}
use Rattle.choices.proofs.Texts.{written_spells}
use Rattle.choices.specs.Reading.{IsPart, goes_on, with_digit, number_step, hex_value, whole_step, digits_refusal, whole_refusal, refusal_at}
use Rattle.choices.specs.Run.{Turn, Goes, Stops, after, step, then_read, run, start}
use Rattle.choices.specs.Answers.{BeginsText, IsCutShort, IsRefusedAt, IsRefusedIn, IsTooLong, IsRefusal, behind_last, line_before, part_before, is_hexadecimal}
use Rattle.choices.proofs.Digits.{between, positive, with_digit_is}
use Rattle.choices.proofs.Numbers.{own}
use Rattle.choices.proofs.Parts.{word_of, base_text, part_text, IsFor}
use Rattle.choices.proofs.Fronts.{started, run-append}
use Rattle.choices.proofs.Complete.{spelled_run, next_digit}
use Rattle.choices.proofs.Endings.{begins}
use Rattle.choices.proofs.Counts.{count, count-append, count_high, behind_none, behind_past, behind_lines, High, high_decimal, high_contents, high_glyph, high_word}

-- ---- whether a text is read

-- a text is refused at the first byte that is not read
pub refused_at : (text : List ℕ) (at : ℕ) (reader : Reader) → run start (take at text) ≡ Goes reader → at < length text → step reader (get_or text at 0) ≡ Stops → IsRefusedAt text at
refused_at text at reader goes within stops =
    let s = started (take at text) reader goes in
    record {
      within = within;
      begins = subst BeginsText s.1 (begins reader s.0);
      goes_on_with_none = λ (rest, choices, spelled).
          let one : take (at + 1) text ++ rest ≡ take at text ++ get_or text at 0 ∷ rest =
          ap (λ (w : List ℕ). w ++ rest) (take_more text at 0 within) ∙ append_assoc (take at text) (get_or text at 0 ∷ []) rest in
          let ran = ap (λ (w : List ℕ). run start w) (sym one) ∙ spelled_run (take (at + 1) text ++ rest) choices spelled in
          let stopped : run start (take at text ++ get_or text at 0 ∷ rest) ≡ Stops =
          run-append start (take at text) (get_or text at 0 ∷ rest)
          ∙ ap (λ (t : Turn). then_read t (λ last. run last (get_or text at 0 ∷ rest))) goes
          ∙ ap (λ (t : Turn). then_read t (λ last. run last rest)) stops in
          cc;
    }

-- a text is cut short where a line is not read to its end
pub cut_short : (text : List ℕ) (reader : Reader) → run start text ≡ Goes reader → (reader.part ≡ Begin → ⊥) → IsCutShort text
cut_short text reader goes inside =
    let s = started text reader goes in
    record {
      begins = subst BeginsText s.1 (begins reader s.0);
      spells_none = λ choices spelled.
          let ran = spelled_run text choices spelled in
          let same : reader ≡ record { choices = choices; contents = []; part = Begin } = cc in
          inside (ap (λ (r : Reader). r.part) same);
    }

-- ---- which bytes were read of a line

-- the part of a line that is read
abbrev part_of : Part → ℕ
part_of Begin = 0
part_of (InWord word read) = 0
part_of (First number) = 1
part_of (Digits number value) = 1
part_of (Contents base) = 2
part_of (Hyphen base) = 2
part_of (Half base high) = 2
part_of (Whole base) = 2

digits_count : (value : ℕ) (number : Number) (n : ℕ) → value < 48 → n < 2 ^ 64 → count value (word_of number ++ decimal n) ≡ count value (word_of number)
digits_count value number n low small =
    count-append value (word_of number) (decimal n)
    ∙ ap (λ (k : ℕ). count value (word_of number) + k) (count_high value (decimal n) low (high_decimal n small))
    ∙ add-zero (count value (word_of number))

base_count : (value base : ℕ) (tail : List ℕ) → value < 48 → base < 2 ^ 64 → count value tail ≡ 0 → count value (base_text base ++ tail) ≡ count value (codes "block ") + count value (codes " ")
base_count value base tail low small none =
    count-append value (base_text base) tail
    ∙ ap (λ (k : ℕ). count value (base_text base) + k) none
    ∙ add-zero (count value (base_text base))
    ∙ count-append value (codes "block ") (decimal base ++ codes " ")
    ∙ ap (λ (k : ℕ). count value (codes "block ") + k)
    (count-append value (decimal base) (codes " ") ∙ ap (λ (k : ℕ). k + count value (codes " ")) (count_high value (decimal base) low (high_decimal base small)) ∙ zero-add (count value (codes " ")))

half_high : (contents : List ℕ) (high : ℕ) → All (λ byte. byte < 256) contents → high < 16 → High (flat_map two_digits contents ++ digit_glyph false high ∷ [])
half_high contents high all less = All-append (λ byte. 48 ≤ byte) (flat_map two_digits contents) (digit_glyph false high ∷ []) (high_contents contents all) (high_glyph high less)

no_newline : (part : Part) (contents : List ℕ) → IsFor part contents → count 10 (part_text part contents) ≡ 0
no_newline Begin contents is = refl
no_newline (InWord word read) contents is = count_high 10 (part_text (InWord word read) contents) (omega arith) (high_word word read is.0)
no_newline (First OfInput) contents is = refl
no_newline (First Base) contents is = refl
no_newline (Digits OfInput value) contents is = digits_count 10 OfInput value (omega arith) is.0
no_newline (Digits Base value) contents is = digits_count 10 Base value (omega arith) is.0
no_newline (Contents base) contents is = ap (λ (w : List ℕ). count 10 w) (sym (append-nil (base_text base))) ∙ base_count 10 base [] (omega arith) is.0 refl
no_newline (Hyphen base) contents is = base_count 10 base (codes "-") (omega arith) is.0 refl
no_newline (Half base high) contents is = base_count 10 base (flat_map two_digits contents ++ digit_glyph false high ∷ []) (omega arith) is.0 (count_high 10 _ (omega arith) (half_high contents high is.2 is.1))
no_newline (Whole base) contents is = base_count 10 base (flat_map two_digits contents) (omega arith) is.0 (count_high 10 _ (omega arith) (high_contents contents is.2.are_bytes))

blanks : (part : Part) (contents : List ℕ) → IsFor part contents → count 32 (part_text part contents) ≡ part_of part
blanks Begin contents is = refl
blanks (InWord word read) contents is = count_high 32 (part_text (InWord word read) contents) (omega arith) (high_word word read is.0)
blanks (First OfInput) contents is = refl
blanks (First Base) contents is = refl
blanks (Digits OfInput value) contents is = digits_count 32 OfInput value (omega arith) is.0
blanks (Digits Base value) contents is = digits_count 32 Base value (omega arith) is.0
blanks (Contents base) contents is = ap (λ (w : List ℕ). count 32 w) (sym (append-nil (base_text base))) ∙ base_count 32 base [] (omega arith) is.0 refl
blanks (Hyphen base) contents is = base_count 32 base (codes "-") (omega arith) is.0 refl
blanks (Half base high) contents is = base_count 32 base (flat_map two_digits contents ++ digit_glyph false high ∷ []) (omega arith) is.0 (count_high 32 _ (omega arith) (half_high contents high is.2 is.1))
blanks (Whole base) contents is = base_count 32 base (flat_map two_digits contents) (omega arith) is.0 (count_high 32 _ (omega arith) (high_contents contents is.2.are_bytes))

digits_behind : (number : Number) (value : ℕ) → value < 2 ^ 64 → behind_last 32 (word_of number ++ decimal value) ≡ decimal value
digits_behind OfInput value small = behind_past 32 (codes "input") (decimal value) ∙ behind_none 32 (decimal value) (count_high 32 (decimal value) (omega arith) (high_decimal value small))
digits_behind Base value small = behind_past 32 (codes "block") (decimal value) ∙ behind_none 32 (decimal value) (count_high 32 (decimal value) (omega arith) (high_decimal value small))

contents_behind : (base : ℕ) (tail : List ℕ) → count 32 tail ≡ 0 → behind_last 32 (base_text base ++ tail) ≡ tail
contents_behind base tail none =
    ap (λ (w : List ℕ). behind_last 32 (codes "block " ++ w)) (append_assoc (decimal base) (codes " ") tail)
    ∙ behind_past 32 (codes "block " ++ decimal base) tail
    ∙ behind_none 32 tail none

pub length_digits : (bytes : List ℕ) → length (flat_map two_digits bytes) ≡ 2 * length bytes
length_digits [] = refl
length_digits (byte ∷ bytes) = let more = length_digits bytes in omega arith

-- ---- why a byte is refused

-- a byte that is not read, behind what was read
pub record IsPlace (text : List ℕ) (at : ℕ) (choices : List Choice) (contents : List ℕ) (part : Part) : Type 0 where
  pub refused : IsRefusedAt text at
  pub line : line_before text at ≡ part_text part contents
  pub is_for : IsFor part contents
  pub stops : step (record { choices = choices; contents = contents; part = part }) (get_or text at 0) ≡ Stops

in_part : (text : List ℕ) (at : ℕ) (choices : List Choice) (contents : List ℕ) (part : Part) → IsPlace text at choices contents part → IsRefusedIn (part_of part) text at
in_part text at choices contents part p = record { refused = p.refused; in_part = ap (λ (w : List ℕ). count 32 w) p.line ∙ blanks part contents p.is_for }

-- contents that are not full
not_full : (text : List ℕ) (at base : ℕ) (tail : List ℕ) → line_before text at ≡ base_text base ++ tail → count 32 tail ≡ 0 → length tail < 131072 → ¬ IsTooLong text at
not_full text at base tail line none short long =
    let same : part_before text at ≡ tail = ap (λ (w : List ℕ). behind_last 32 w) line ∙ contents_behind base tail none in
    let full : 131072 ≤ length tail = subst (λ (w : List ℕ). 131072 ≤ length w) same long.full in
    omega arith

-- one digit more
value_more : (before : ℕ) (digits : List ℕ) (digit : ℕ) → decimal_value before (digits ++ digit ∷ []) ≡ 10 * decimal_value before digits + (digit - 48)
value_more before [] digit = refl
value_more before (first ∷ rest) digit = value_more (10 * before + (first - 48)) rest digit

-- a digit that no number goes on with is one too many
too_great : (number : Number) (value byte : ℕ) (reader : Reader) → 0 < value → is_digit byte ≡ true → after reader (number_step number value byte) ≡ Stops
    → ((10 * value + (byte - 48) < 2 ^ 64) ⊎ (2 ^ 64 ≤ 10 * value + (byte - 48))) → 2 ^ 64 ≤ 10 * value + (byte - 48)
too_great number value byte reader some digit stops (inr great) = great
too_great number value byte reader some digit stops (inl fits) =
    let goes : number_step number value byte ≡ Go (Digits number (10 * value + (byte - 48))) =
    cond-true (is_digit byte) (goes_on (Digits number) (with_digit value (byte - 48))) _ digit
    ∙ ap (λ (o : Option ℕ). goes_on (Digits number) o) (with_digit_is value (byte - 48) some fits) in
    let went = ap (λ (s : Step). after reader s) goes in
    absurd (cc)

digits_refused : (text : List ℕ) (at : ℕ) (choices : List Choice) (contents : List ℕ) (number : Number) (value : ℕ) → IsPlace text at choices contents (Digits number value)
    → IsRefusal text (digits_refusal value (get_or text at 0) at)
digits_refused text at choices contents number value p =
    let P : Refusal → Type 0 = IsRefusal text in
    let byte = get_or text at 0 in
    let reader : Reader = record { choices = choices; contents = contents; part = Digits number value } in
    let is = in_part text at choices contents (Digits number value) p in
    let small : value < 2 ^ 64 = p.is_for.0 in
    let digits : part_before text at ≡ decimal value = ap (λ (w : List ℕ). behind_last 32 w) p.line ∙ digits_behind number value small in
    cond_both (is_digit byte) _ _ P
    (λ digit. cond_both (value == 0) _ _ P
    (λ is_zero. (is, digit, digits ∙ ap decimal (eqb-true value 0 is_zero) ∙ decimal_digit 0 (omega arith)))
    (λ is_not.
    let some : 0 < value = positive value is_not in
    let great = too_great number value byte reader some digit p.stops (cases_lt (10 * value + (byte - 48)) (2 ^ 64)) in
    let sum : decimal_value 0 (part_before text at ++ byte ∷ []) ≡ 10 * value + (byte - 48) =
    ap (λ (w : List ℕ). decimal_value 0 (w ++ byte ∷ [])) digits
    ∙ value_more 0 (decimal value) byte
    ∙ ap (λ (n : ℕ). 10 * n + (byte - 48)) (digits_value-decimal own value small) in
    (is, digit, subst (λ (n : ℕ). 2 ^ 64 ≤ n) (sym sum) great)))
    (λ none. (is, none))

-- a hexadecimal digit has a value
pub record HasValue (byte : ℕ) : Type 0 where
  pub value : ℕ
  pub is : hex_value byte ≡ Some value
  pub above : 48 ≤ byte
  pub digit : is_hexadecimal byte ≡ true

other_side : (x y : Bool) → x ≡ false → (x || y) ≡ true → y ≡ true
other_side true y no_x is = absurd (cc)
other_side false y no_x is = is

value_cases : (byte : ℕ) → is_hexadecimal byte ≡ true → ((is_digit byte ≡ true) ⊎ (is_digit byte ≡ false)) → HasValue byte
value_cases byte is (inl digit) = record {
  value = byte - 48;
  is = cond-true (is_between 48 57 byte) (Some (byte - 48)) _ digit;
  above = (between 48 57 byte digit).0;
  digit = is;
}
value_cases byte is (inr other) =
    let letter : is_between 97 102 byte ≡ true = other_side (is_digit byte) (is_between 97 102 byte) other is in
    let b = between 97 102 byte letter in
    let low : 97 ≤ byte = b.0 in
    record {
      value = byte - 97 + 10;
      is = cond-false (is_between 48 57 byte) _ _ other ∙ cond-true (is_between 97 102 byte) (Some (byte - 97 + 10)) None letter;
      above = omega arith;
      digit = is;
    }

pub has_value : (byte : ℕ) → is_hexadecimal byte ≡ true → HasValue byte
has_value byte is = value_cases byte is (cases_Bool (is_digit byte))

-- a byte that is no hexadecimal digit has no value
no_value : (byte : ℕ) → is_hexadecimal byte ≡ false → hex_value byte ≡ None
no_value byte is =
    let parts = or_parts (is_digit byte) (is_between 97 102 byte) is in
    cond-false (is_between 48 57 byte) _ _ parts.0 ∙ cond-false (is_between 97 102 byte) (Some (byte - 97 + 10)) None parts.1

full_where_refused : (base byte : ℕ) (reader : Reader) → HasValue byte → after reader (whole_step base (nat_le 65536 (length reader.contents)) byte) ≡ Stops
    → ((length reader.contents < 65536) ⊎ (65536 ≤ length reader.contents)) → 65536 ≤ length reader.contents
full_where_refused base byte reader h stops (inr full) = full
full_where_refused base byte reader h stops (inl room) =
    let went = ap (λ (s : Step). after reader s) (next_digit base byte h.value (length reader.contents) h.above h.is room) in
    absurd (cc)

whole_cases : (text : List ℕ) (at : ℕ) (choices : List Choice) (contents : List ℕ) (base : ℕ) → IsRefusedIn 2 text at
    → step (record { choices = choices; contents = contents; part = Whole base }) (get_or text at 0) ≡ Stops → length (part_before text at) ≡ 2 * length contents
    → ((is_hexadecimal (get_or text at 0) ≡ true) ⊎ (is_hexadecimal (get_or text at 0) ≡ false)) → IsRefusal text (whole_refusal (get_or text at 0) at)
whole_cases text at choices contents base is stops long (inl digit) =
    let h = has_value (get_or text at 0) digit in
    let full : 65536 ≤ length contents = full_where_refused base (get_or text at 0) (record { choices = choices; contents = contents; part = Whole base }) h stops (cases_lt (length contents) 65536) in
    let is_long : IsTooLong text at = record { digit = digit; full = omega arith } in
    subst (λ (o : Option ℕ). IsRefusal text (if is_some o then refusal.TooLong at else refusal.Contents at)) (sym h.is) (is, is_long)
whole_cases text at choices contents base is stops long (inr other) =
    subst (λ (o : Option ℕ). IsRefusal text (if is_some o then refusal.TooLong at else refusal.Contents at)) (sym (no_value (get_or text at 0) other))
    (is, λ (long : IsTooLong text at). both_ways (is_hexadecimal (get_or text at 0)) other long.digit)

whole_refused : (text : List ℕ) (at : ℕ) (choices : List Choice) (contents : List ℕ) (base : ℕ) → IsPlace text at choices contents (Whole base)
    → IsRefusal text (whole_refusal (get_or text at 0) at)
whole_refused text at choices contents base p =
    let is = in_part text at choices contents (Whole base) p in
    let bytes = p.is_for.2.are_bytes in
    let none : count 32 (flat_map two_digits contents) ≡ 0 = count_high 32 (flat_map two_digits contents) (omega arith) (high_contents contents bytes) in
    let same : part_before text at ≡ flat_map two_digits contents = ap (λ (w : List ℕ). behind_last 32 w) p.line ∙ contents_behind base (flat_map two_digits contents) none in
    let long : length (part_before text at) ≡ 2 * length contents = ap length same ∙ length_digits contents in
    whole_cases text at choices contents base is p.stops long (cases_Bool (is_hexadecimal (get_or text at 0)))

-- where a number begins, a byte that is not read is no digit
first_none : (number : Number) (byte : ℕ) (choices : List Choice) (contents : List ℕ) → step (record { choices = choices; contents = contents; part = First number }) byte ≡ Stops
    → ((is_digit byte ≡ true) ⊎ (is_digit byte ≡ false)) → is_digit byte ≡ false
first_none number byte choices contents stops (inr other) = other
first_none number byte choices contents stops (inl digit) =
    let reader : Reader = record { choices = choices; contents = contents; part = First number } in
    let went = ap (λ (o : Option ℕ). after reader (goes_on (Digits number) o)) (cond-true (is_digit byte) (Some (byte - 48)) None digit) in
    absurd (cc)

-- why a byte is refused behind what was read
pub refusal_is : (text : List ℕ) (at : ℕ) (choices : List Choice) (contents : List ℕ) (part : Part) → IsPlace text at choices contents part → IsRefusal text (refusal_at part (get_or text at 0) at)
refusal_is text at choices contents Begin p = in_part text at choices contents Begin p
refusal_is text at choices contents (InWord word read) p = in_part text at choices contents (InWord word read) p
refusal_is text at choices contents (First number) p = (in_part text at choices contents (First number) p, first_none number (get_or text at 0) choices contents p.stops (cases_Bool (is_digit (get_or text at 0))))
refusal_is text at choices contents (Digits number value) p = digits_refused text at choices contents number value p
refusal_is text at choices contents (Contents base) p =
    (in_part text at choices contents (Contents base) p, not_full text at base [] (p.line ∙ sym (append-nil (base_text base))) refl (omega arith))
refusal_is text at choices contents (Hyphen base) p =
    (in_part text at choices contents (Hyphen base) p, not_full text at base (codes "-") p.line refl (omega arith))
refusal_is text at choices contents (Half base high) p =
    let room : length contents < 65536 = p.is_for.3 in
    let long : length (flat_map two_digits contents ++ digit_glyph false high ∷ []) ≡ 2 * length contents + 1 =
    length-append (flat_map two_digits contents) (digit_glyph false high ∷ []) ∙ ap (λ (n : ℕ). n + 1) (length_digits contents) in (
      in_part text at choices contents (Half base high) p,
      not_full text at base (flat_map two_digits contents ++ digit_glyph false high ∷ []) p.line
          (count_high 32 _ (omega arith) (half_high contents high p.is_for.2 p.is_for.1)) (omega arith),
    )
refusal_is text at choices contents (Whole base) p = whole_refused text at choices contents base p

-- a byte that is not read is refused for what was read of its line
pub refused : (text : List ℕ) (at : ℕ) (reader : Reader) → run start (take at text) ≡ Goes reader → at < length text → step reader (get_or text at 0) ≡ Stops
    → IsRefusal text (refusal_at reader.part (get_or text at 0) at)
refused text at reader goes within stops =
    let s = started (take at text) reader goes in
    let line : line_before text at ≡ part_text reader.part reader.contents =
    ap (λ (w : List ℕ). behind_last 10 w) (sym s.1)
    ∙ behind_lines reader.choices (part_text reader.part reader.contents) s.0.choices
    ∙ behind_none 10 (part_text reader.part reader.contents) (no_newline reader.part reader.contents s.0.part) in
    refusal_is text at reader.choices reader.contents reader.part (record { refused = refused_at text at reader goes within stops; line = line; is_for = s.0.part; stops = stops })

-- ---- for the loop over a text

is_part : (part : Part) (contents : List ℕ) → IsFor part contents → IsPart part
is_part Begin contents is = tt
is_part (InWord word read) contents is = is.0
is_part (First number) contents is = tt
is_part (Digits number value) contents is = tt
is_part (Contents base) contents is = tt
is_part (Hyphen base) contents is = tt
is_part (Half base high) contents is = is.1
is_part (Whole base) contents is = tt

pub part_reached : (text : List ℕ) (reader : Reader) → run start text ≡ Goes reader → IsPart reader.part
part_reached text reader goes = is_part reader.part reader.contents (started text reader goes).0.part

-- a byte that is read
pub one_more : (text : List ℕ) (at : ℕ) (reader next : Reader) → run start (take at text) ≡ Goes reader → at < length text → step reader (get_or text at 0) ≡ Goes next
    → run start (take (at + 1) text) ≡ Goes next
one_more text at reader next goes within read =
    ap (λ (w : List ℕ). run start w) (take_more text at 0 within)
    ∙ run-append start (take at text) (get_or text at 0 ∷ [])
    ∙ ap (λ (t : Turn). then_read t (λ last. run last (get_or text at 0 ∷ []))) goes
    ∙ ap (λ (t : Turn). then_read t (λ last. run last [])) read

-- a text that is read to its end, with no line begun
pub read_whole : (text : List ℕ) (reader : Reader) → run start text ≡ Goes reader → reader.part ≡ Begin → SpellsChoices text reader.choices
read_whole text reader goes at_begin =
    let s = started text reader goes in
    let same : written reader.choices ≡ text =
    sym (append-nil (written reader.choices)) ∙ ap (λ (p : Part). written reader.choices ++ part_text p reader.contents) (sym at_begin) ∙ s.1 in
    subst (λ (w : List ℕ). SpellsChoices w reader.choices) same (written_spells reader.choices s.0.choices)
