-- Line markers: what is found on a line is what it says, both ways.
use Rattle.std.specs.Prelude.{◌≡◌, ◌≢◌, ℕ, suc, ◌+◌, ◌-◌, ◌*◌, ◌≤◌, ◌<◌, Bool, true, false, ◌&&◌, ◌||◌, ◌⊎◌, not, List, [], ◌∷◌, ◌++◌, length, take, drop, nat_eq, nat_le, Option, None, Some, option_map, codes, cond, if◌then◌else◌}
use Rattle.std.specs.List.{list_all, prefix_len, starts_with}
use Rattle.std.proofs.Common.{refl, sym, ◌∙◌, ap, subst, arith, inl, inr, le-leb, length-append}
use Rattle.std.proofs.Math.Seq.{drop-append_seam, take-append_seam}
use Rattle.std.proofs.lemmas.Bool.{eqb-true, leb-true, ne_eqb, lt-leb}
use Rattle.std.proofs.lemmas.List.{take-append-drop, append_assoc}
use Rattle.std.proofs.lemmas.Slice.Eq.{bytes_eq-Decides}
use Rattle.ctokens.proofs.Choices.{both_true, both_false, false_and, false_or, or_true, either_true, chosen_no, chosen_yes, from_choice}
use Rattle.ctokens.proofs.FoundParts.{next}
use Rattle.ctokens.proofs.Rows.{prefix_len-append_row, list_all-take_row}
use Rattle.cbase.specs.Bytes.{is_digit, is_between}
use Rattle.ctokens.specs.Bytes.{is_empty, is_blank}
use Rattle.cbase.specs.Bytes.{decimal_value}
use Rattle.ctokens.specs.Directive.{unblanked, begins_with_blank, is_pragma, is_pack, is_passed_over, greatest_line, written, IsOpening, AreDigits, is_flag_byte, IsMarker}
use Rattle.ctokens.specs.MarkerAt.{line_number, preceded, skipped, role_in_name, name_at, flagged, name_and_flags, numbered, number_and_name, marker_at}
use Rattle.ctokens.specs.declared.marker.FoundMarker.{FoundMarker}
use Rattle.ctokens.specs.declared.marker.FoundName.{FoundName}
use Rattle.ctokens.specs.declared.marker.Role.{Role}
use Rattle.ctokens.specs.declared.marker.Role.TheVariants.{Holds, Skips, Ends, Breaks}

-- a byte up to `9` that is no letter
abbrev is_low : ℕ → Bool
is_low byte = is_blank byte || is_digit byte

low_bound : (byte : ℕ) → is_low byte ≡ true → byte ≤ 57
low_bound byte h =
    either_true (byte ≤ 57) (is_blank byte) (is_digit byte) h
    (λ blank. either_true (byte ≤ 57) (nat_eq byte 32) (is_between 9 13 byte) blank
    (λ space. omega (arith, eqb-true byte 32 space))
    (λ tab. omega (arith, leb-true byte 13 (both_true (nat_le 9 byte) (nat_le byte 13) tab).1)))
    (λ digit. omega (arith, leb-true byte 57 (both_true (nat_le 48 byte) (nat_le byte 57) digit).1))

digit_is_no_blank : (byte : ℕ) → is_digit byte ≡ true → is_blank byte ≡ false
digit_is_no_blank byte h =
    let low = leb-true 48 byte (both_true (nat_le 48 byte) (nat_le byte 57) h).0 in
    false_or (nat_eq byte 32) (is_between 9 13 byte) (ne_eqb byte 32 (λ e. omega (arith, e))) (false_and (nat_le 9 byte) (nat_le byte 13) (lt-leb byte 13 (omega arith)))

blank_is_no_digit : (byte : ℕ) → is_blank byte ≡ true → is_digit byte ≡ false
blank_is_no_digit byte h =
    let small : byte < 48 =
    either_true (byte < 48) (nat_eq byte 32) (is_between 9 13 byte) h
    (λ space. omega (arith, eqb-true byte 32 space))
    (λ tab. omega (arith, leb-true byte 13 (both_true (nat_le 9 byte) (nat_le byte 13) tab).1)) in
    ap (λ (b : Bool). b && nat_le byte 57) (lt-leb 48 byte small)

-- what stands behind blanks
unblanked-row : (blanks rest : List ℕ) → list_all is_blank blanks ≡ true → prefix_len is_blank rest ≡ 0 → unblanked (blanks ++ rest) ≡ rest
unblanked-row blanks rest are_blank end =
    let row = prefix_len-append_row is_blank blanks rest are_blank in
    let count : prefix_len is_blank (blanks ++ rest) ≡ length blanks = omega (arith, row, end) in
    ap (λ (n : ℕ). drop n (blanks ++ rest)) count ∙ drop-append_seam blanks rest

-- names

name_at-written : (name flags : List ℕ) → name_at false (written name ++ 34 ∷ flags) ≡ Some (record { name = name; taken = length (written name) + 1 })
name_at-written [] flags = refl
name_at-written (byte ∷ name) flags = step (nat_eq byte 34 || nat_eq byte 92) refl (name_at-written name flags)
  where
    step : (test : Bool) → (nat_eq byte 34 || nat_eq byte 92) ≡ test
        → name_at false (written name ++ 34 ∷ flags) ≡ Some (record { name = name; taken = length (written name) + 1 })
        → name_at false ((if test then 92 ∷ (byte ∷ written name) else byte ∷ written name) ++ 34 ∷ flags)
        ≡ Some (record { name = byte ∷ name; taken = length (if test then 92 ∷ (byte ∷ written name) else byte ∷ written name) + 1 })
    step true is tail =
        let two : 1 + (1 + (length (written name) + 1)) ≡ length (92 ∷ (byte ∷ written name)) + 1 = omega arith in
        ap (option_map skipped) (ap (λ (r : Role). next r byte (written name ++ 34 ∷ flags)) (chosen_yes (nat_eq byte 34 || nat_eq byte 92) Holds Breaks is) ∙ ap (option_map (preceded byte)) tail)
        ∙ ap (λ (n : ℕ). Some (record { name = byte ∷ name; taken = n })) two
    step false is tail =
        let (no_quote, no_slash) = both_false (nat_eq byte 34) (nat_eq byte 92) is in
        let one : 1 + (length (written name) + 1) ≡ length (byte ∷ written name) + 1 = omega arith in
        let role : role_in_name false byte ≡ Holds = chosen_no (nat_eq byte 34) _ _ no_quote ∙ chosen_no (nat_eq byte 92) Skips Holds no_slash in
        ap (λ (r : Role). next r byte (written name ++ 34 ∷ flags)) role
        ∙ (ap (option_map (preceded byte)) tail ∙ ap (λ (n : ℕ). Some (record { name = byte ∷ name; taken = n })) one)

-- what a found name says of the text, which stands behind a `\` or not
record HasName (front : List ℕ) (text : List ℕ) (found : FoundName) : Type 0 where
  whole : front ++ text ≡ written found.name ++ 34 ∷ drop found.taken text

abbrev front_of : Bool → List ℕ
front_of true = 92 ∷ []
front_of false = []

drop_one : (count byte : ℕ) (others : List ℕ) → drop (1 + count) (byte ∷ others) ≡ drop count others
drop_one count byte others = let one : 1 + count ≡ suc count = omega arith in ap (λ (n : ℕ). drop n (byte ∷ others)) one

-- a byte that is part of a name is written with what stands before it
held : (kept : Bool) (byte : ℕ) (name : List ℕ) → role_in_name kept byte ≡ Holds → front_of kept ++ byte ∷ written name ≡ written (byte ∷ name)
held true byte name is = sym (chosen_yes (nat_eq byte 34 || nat_eq byte 92) _ _ (was_held (nat_eq byte 34 || nat_eq byte 92) is))
  where
    was_held : (test : Bool) → (if test then Holds else Breaks) ≡ Holds → test ≡ true
    was_held true is = refl
    was_held false is = absurd cc
held false byte name is = plain (nat_eq byte 34) (nat_eq byte 92) refl refl is
  where
    plain : (quote slash : Bool) → nat_eq byte 34 ≡ quote → nat_eq byte 92 ≡ slash → (if quote then Ends else (if slash then Skips else Holds)) ≡ Holds
        → byte ∷ written name ≡ written (byte ∷ name)
    plain true slash is_quote is_slash is = absurd cc
    plain false true is_quote is_slash is = absurd cc
    plain false false is_quote is_slash is = sym (chosen_no (nat_eq byte 34 || nat_eq byte 92) _ _ (false_or (nat_eq byte 34) (nat_eq byte 92) is_quote is_slash))

-- a byte that takes the next one along, and one that ends the name
skips : (kept : Bool) (byte : ℕ) → role_in_name kept byte ≡ Skips → (kept ≡ false) × (byte ≡ 92)
skips true byte is = of_test (nat_eq byte 34 || nat_eq byte 92) is
  where
    of_test : (test : Bool) → (if test then Holds else Breaks) ≡ Skips → (true ≡ false) × (byte ≡ 92)
    of_test true is = absurd cc
    of_test false is = absurd cc
skips false byte is = (refl, eqb-true byte 92 (of_tests (nat_eq byte 34) (nat_eq byte 92) is))
  where
    of_tests : (quote slash : Bool) → (if quote then Ends else (if slash then Skips else Holds)) ≡ Skips → slash ≡ true
    of_tests true slash is = absurd cc
    of_tests false true is = refl
    of_tests false false is = absurd cc

ends : (kept : Bool) (byte : ℕ) → role_in_name kept byte ≡ Ends → (kept ≡ false) × (byte ≡ 34)
ends true byte is = of_test (nat_eq byte 34 || nat_eq byte 92) is
  where
    of_test : (test : Bool) → (if test then Holds else Breaks) ≡ Ends → (true ≡ false) × (byte ≡ 34)
    of_test true is = absurd cc
    of_test false is = absurd cc
ends false byte is = (refl, eqb-true byte 34 (of_tests (nat_eq byte 34) (nat_eq byte 92) is))
  where
    of_tests : (quote slash : Bool) → (if quote then Ends else (if slash then Skips else Holds)) ≡ Ends → quote ≡ true
    of_tests true slash is = refl
    of_tests false true is = absurd cc
    of_tests false false is = absurd cc

name_at-sound : (kept : Bool) (text : List ℕ) (found : FoundName) → name_at kept text ≡ Some found → HasName (front_of kept) text found
name_at-sound kept [] found h = absurd cc
name_at-sound kept (byte ∷ others) found h =
    step (role_in_name kept byte) refl h (λ more rest. name_at-sound true others more rest) (λ more rest. name_at-sound false others more rest)
  where
    skipped_over : (more : Option FoundName) → name_at true others ≡ more → role_in_name kept byte ≡ Skips → option_map skipped more ≡ Some found
        → ((more : FoundName) → name_at true others ≡ Some more → HasName (92 ∷ []) others more) → HasName (front_of kept) (byte ∷ others) found
    skipped_over None is role h tail = absurd cc
    skipped_over (Some more) is role h tail =
        let same : skipped more ≡ found = cc in
        let (unkept, slash) = skips kept byte role in
        let here : HasName [] (byte ∷ others) (skipped more) = record {
          whole = ap (λ (b : ℕ). b ∷ others) slash
              ∙ ((tail more is).whole ∙ ap (λ (t : List ℕ). written more.name ++ 34 ∷ t) (sym (drop_one more.taken byte others)));
        } in
        subst (λ (f : FoundName). HasName (front_of kept) (byte ∷ others) f) same
        (subst (λ (b : Bool). HasName (front_of b) (byte ∷ others) (skipped more)) (sym unkept) here)

    plain : (more : Option FoundName) → name_at false others ≡ more → role_in_name kept byte ≡ Holds → option_map (preceded byte) more ≡ Some found
        → ((more : FoundName) → name_at false others ≡ Some more → HasName [] others more) → HasName (front_of kept) (byte ∷ others) found
    plain None is role h tail = absurd cc
    plain (Some more) is role h tail =
        let same : preceded byte more ≡ found = cc in
        let front : List ℕ = front_of kept in
        let behind : List ℕ = 34 ∷ drop more.taken others in
        let here : HasName front (byte ∷ others) (preceded byte more) = record {
          whole = ap (λ (t : List ℕ). front ++ byte ∷ t) (tail more is).whole
              ∙ (sym (append_assoc front (byte ∷ written more.name) behind)
              ∙ (ap (λ (w : List ℕ). w ++ behind) (held kept byte more.name role)
              ∙ ap (λ (t : List ℕ). written (byte ∷ more.name) ++ 34 ∷ t) (sym (drop_one more.taken byte others))));
        } in
        subst (λ (f : FoundName). HasName front (byte ∷ others) f) same here

    step : (role : Role) → role_in_name kept byte ≡ role → next role byte others ≡ Some found
        → ((more : FoundName) → name_at true others ≡ Some more → HasName (92 ∷ []) others more)
        → ((more : FoundName) → name_at false others ≡ Some more → HasName [] others more) → HasName (front_of kept) (byte ∷ others) found
    step Holds is h escaped tail = plain (name_at false others) refl is h tail
    step Skips is h escaped tail = skipped_over (name_at true others) refl is h escaped
    step Ends is h escaped tail =
        let empty : FoundName = record { name = []; taken = 1 } in
        let same : empty ≡ found = cc in
        let (unkept, quote) = ends kept byte is in
        let here : HasName [] (byte ∷ others) empty = record { whole = ap (λ (b : ℕ). b ∷ others) quote } in
        subst (λ (f : FoundName). HasName (front_of kept) (byte ∷ others) f) same
        (subst (λ (b : Bool). HasName (front_of b) (byte ∷ others) empty) (sym unkept) here)
    step Breaks is h escaped tail = absurd cc

-- numbers

-- a further digit makes no value smaller
pub decimal_value-rises : (before : ℕ) (digits : List ℕ) → before ≤ decimal_value before digits
decimal_value-rises before [] = omega arith
decimal_value-rises before (digit ∷ others) = omega (arith, decimal_value-rises (10 * before + (digit - 48)) others)

line_number-exact : (before : ℕ) (digits : List ℕ) → decimal_value before digits ≤ greatest_line → line_number before digits ≡ Some (decimal_value before digits)
line_number-exact before [] small = refl
line_number-exact before (digit ∷ others) small =
    let rises = decimal_value-rises (10 * before + (digit - 48)) others in
    let fits : 10 * before + (digit - 48) ≤ greatest_line = omega (arith, rises, small) in
    chosen_yes (nat_le (10 * before + (digit - 48)) greatest_line) _ _ (le-leb (10 * before + (digit - 48)) greatest_line fits)
    ∙ line_number-exact (10 * before + (digit - 48)) others small

line_number-sound : (before : ℕ) (digits : List ℕ) (number : ℕ) → before ≤ greatest_line → line_number before digits ≡ Some number
    → (decimal_value before digits ≡ number) × (number ≤ greatest_line)
line_number-sound before [] number small h = let same : before ≡ number = cc in (same, omega (arith, same))
line_number-sound before (digit ∷ others) number small h =
    from_choice ((decimal_value (10 * before + (digit - 48)) others ≡ number) × (number ≤ greatest_line)) (nat_le (10 * before + (digit - 48)) greatest_line) _ _ (Some number) h
    (λ fits later. line_number-sound (10 * before + (digit - 48)) others number (leb-true _ greatest_line fits) later)
    (λ large later. absurd cc)

-- what stands behind the opening
record IsRest (text : List ℕ) (number : ℕ) (name : List ℕ) : Type 0 where
  digits : List ℕ
  gap : List ℕ
  flags : List ℕ
  whole : text ≡ digits ++ (gap ++ (34 ∷ (written name ++ (34 ∷ flags))))
  numbers : AreDigits digits number
  are_blank : list_all is_blank gap ≡ true
  are_flags : list_all is_flag_byte flags ≡ true

name_and_flags-exact : (number : ℕ) (name flags : List ℕ) → list_all is_flag_byte flags ≡ true
    → name_and_flags number (34 ∷ (written name ++ 34 ∷ flags)) ≡ Some (record { number = number; name = name })
unfolding name_and_flags
name_and_flags-exact number name flags are_flags =
    let behind : drop (length (written name) + 1) (written name ++ 34 ∷ flags) ≡ flags =
    ap (drop (length (written name) + 1)) (sym (append_assoc (written name) (34 ∷ []) flags))
    ∙ (ap (λ (n : ℕ). drop n ((written name ++ 34 ∷ []) ++ flags)) (sym (length-append (written name) (34 ∷ [])))
    ∙ drop-append_seam (written name ++ 34 ∷ []) flags) in
    ap (flagged number (written name ++ 34 ∷ flags)) (name_at-written name flags)
    ∙ chosen_yes (list_all is_flag_byte (drop (length (written name) + 1) (written name ++ 34 ∷ flags))) _ _
    (ap (list_all is_flag_byte) behind ∙ are_flags)

some_from_full : (row : List ℕ) → is_empty row ≡ false → nat_eq (length row) 0 ≡ false
some_from_full [] h = absurd cc
some_from_full (first ∷ others) h = ne_eqb (length (first ∷ others)) 0 (λ e. omega (arith, e))

gap_ends_digits : (gap more : List ℕ) → list_all is_blank gap ≡ true → prefix_len is_digit (gap ++ 34 ∷ more) ≡ 0
gap_ends_digits [] more h = refl
gap_ends_digits (first ∷ others) more h =
    let (blank, rest) = both_true (is_blank first) (list_all is_blank others) h in
    rw (blank_is_no_digit first blank) refl

number_and_name-exact : (text : List ℕ) (number : ℕ) (name : List ℕ) → IsRest text number name → number_and_name text ≡ Some (record { number = number; name = name })
unfolding number_and_name
number_and_name-exact text number name rest =
    let tail : List ℕ = 34 ∷ (written name ++ 34 ∷ rest.flags) in
    let row = prefix_len-append_row is_digit rest.digits (rest.gap ++ tail) rest.numbers.decimal in
    let end = gap_ends_digits rest.gap (written name ++ 34 ∷ rest.flags) rest.are_blank in
    let count : prefix_len is_digit text ≡ length rest.digits = ap (prefix_len is_digit) rest.whole ∙ omega (arith, row, end) in
    let front : take (prefix_len is_digit text) text ≡ rest.digits =
    ap (λ (n : ℕ). take n text) count ∙ (ap (take (length rest.digits)) rest.whole ∙ take-append_seam rest.digits (rest.gap ++ tail)) in
    let behind : drop (prefix_len is_digit text) text ≡ rest.gap ++ tail =
    ap (λ (n : ℕ). drop n text) count ∙ (ap (drop (length rest.digits)) rest.whole ∙ drop-append_seam rest.digits (rest.gap ++ tail)) in
    let value : line_number 0 (take (prefix_len is_digit text) text) ≡ Some number =
    ap (line_number 0) front ∙ (line_number-exact 0 rest.digits (omega (arith, rest.numbers.value, rest.numbers.in_range)) ∙ ap Some rest.numbers.value) in
    chosen_no (nat_eq (prefix_len is_digit text) 0) _ _ (ap (λ (n : ℕ). nat_eq n 0) count ∙ some_from_full rest.digits rest.numbers.some)
    ∙ (ap (numbered (unblanked (drop (prefix_len is_digit text) text))) value
    ∙ (ap (name_and_flags number) (ap unblanked behind ∙ unblanked-row rest.gap tail rest.are_blank refl)
    ∙ name_and_flags-exact number name rest.flags rest.are_flags))

digits_end_blanks : (text : List ℕ) (number : ℕ) (name : List ℕ) → IsRest text number name → (prefix_len is_blank text ≡ 0)
digits_end_blanks text number name rest = ap (prefix_len is_blank) rest.whole ∙ first rest.digits rest.numbers.some rest.numbers.decimal
  where
    first : (digits : List ℕ) → is_empty digits ≡ false → list_all is_digit digits ≡ true
        → prefix_len is_blank (digits ++ (rest.gap ++ (34 ∷ (written name ++ (34 ∷ rest.flags))))) ≡ 0
    first [] some all = absurd cc
    first (digit ∷ digits) some all =
        let (one, more) = both_true (is_digit digit) (list_all is_digit digits) all in
        rw (digit_is_no_blank digit one) refl

-- the opening, and what stands behind it
record IsOpened (line : List ℕ) (number : ℕ) (name : List ℕ) : Type 0 where
  opening : List ℕ
  rest : List ℕ
  whole : line ≡ opening ++ rest
  opens : IsOpening opening
  follows : IsRest rest number name

opened_from_marker : (line : List ℕ) (number : ℕ) (name : List ℕ) → IsMarker line number name → IsOpened line number name
opened_from_marker line number name marker = record {
  opening = marker.opening;
  rest = marker.digits ++ (marker.gap ++ (34 ∷ (written name ++ (34 ∷ marker.flags))));
  whole = marker.whole;
  opens = marker.opens;
  follows = record { digits = marker.digits; gap = marker.gap; flags = marker.flags; whole = refl; numbers = marker.numbers; are_blank = marker.are_blank; are_flags = marker.are_flags };
}

marker_from_opened : (line : List ℕ) (number : ℕ) (name : List ℕ) → IsOpened line number name → IsMarker line number name
marker_from_opened line number name opened = record {
  opening = opened.opening;
  digits = opened.follows.digits;
  gap = opened.follows.gap;
  flags = opened.follows.flags;
  whole = opened.whole ∙ ap (λ (t : List ℕ). opened.opening ++ t) opened.follows.whole;
  opens = opened.opens;
  numbers = opened.follows.numbers;
  are_blank = opened.follows.are_blank;
  are_flags = opened.follows.are_flags;
}

-- the byte behind the `#` of a marker: a low one, or the `l` of `#line`
record HasSecond (line : List ℕ) : Type 0 where
  second : ℕ
  others : List ℕ
  whole : line ≡ 35 ∷ (second ∷ others)
  is_one : (is_low second ≡ true) ⊎ (second ≡ 108)

low_from_row : (blanks rest : List ℕ) (number : ℕ) (name : List ℕ) → list_all is_blank blanks ≡ true → IsRest rest number name
    → (second : ℕ) × (others : List ℕ) × (blanks ++ rest ≡ second ∷ others) × (is_low second ≡ true)
low_from_row [] rest number name are_blank follows = first follows.digits follows.numbers.some follows.numbers.decimal follows.whole
  where
    first : (digits : List ℕ) → is_empty digits ≡ false → list_all is_digit digits ≡ true
        → rest ≡ digits ++ (follows.gap ++ (34 ∷ (written name ++ (34 ∷ follows.flags))))
        → (second : ℕ) × (others : List ℕ) × (rest ≡ second ∷ others) × (is_low second ≡ true)
    first [] some all whole = absurd cc
    first (digit ∷ digits) some all whole =
        let (one, more) = both_true (is_digit digit) (list_all is_digit digits) all in
        (digit, digits ++ (follows.gap ++ (34 ∷ (written name ++ (34 ∷ follows.flags)))), whole, or_true (is_blank digit) (is_digit digit) one)
low_from_row (blank ∷ blanks) rest number name are_blank follows =
    let (one, more) = both_true (is_blank blank) (list_all is_blank blanks) are_blank in
    (blank, blanks ++ rest, refl, or_left (is_blank blank) (is_digit blank) one)
  where
    or_left : (a b : Bool) → a ≡ true → (a || b) ≡ true
    or_left a b h = rw h refl

second_of_marker : (line : List ℕ) (number : ℕ) (name : List ℕ) → IsOpened line number name → HasSecond line
second_of_marker line number name opened = by_opening opened.opens
  where
    by_opening : IsOpening opened.opening → HasSecond line
    by_opening (blanks, are_blank, inl is) =
        let (second, others, whole, low) = low_from_row blanks opened.rest number name are_blank opened.follows in
        record {
          second = second;
          others = others;
          whole = opened.whole ∙ (ap (λ (o : List ℕ). o ++ opened.rest) is ∙ ap (λ (t : List ℕ). 35 ∷ t) whole);
          is_one = inl low;
        }
    by_opening (blanks, are_blank, inr (is, some)) =
        record {
          second = 108;
          others = (105 ∷ (110 ∷ (101 ∷ blanks))) ++ opened.rest;
          whole = opened.whole ∙ ap (λ (o : List ℕ). o ++ opened.rest) is;
          is_one = inr refl;
        }

-- a byte that stands behind the `#` of no marker
stands_apart : (letter second : ℕ) → 57 < letter → letter ≢ 108 → (is_low second ≡ true) ⊎ (second ≡ 108) → nat_eq letter second ≡ false
stands_apart letter second high other (inl low) = ne_eqb letter second (λ e. omega (arith, e, low_bound second low))
stands_apart letter second high other (inr is) = ne_eqb letter second (λ e. other (e ∙ is))

pub marker_is_not_pragma : (line : List ℕ) (number : ℕ) (name : List ℕ) → IsMarker line number name → (is_pack line ≡ false) × (is_passed_over line ≡ false)
marker_is_not_pragma line number name marker =
    let found = second_of_marker line number name (opened_from_marker line number name marker) in
    let no_p = stands_apart 112 found.second (omega arith) (λ e. omega (arith, e)) found.is_one in
    let no_i = stands_apart 105 found.second (omega arith) (λ e. omega (arith, e)) found.is_one in
    let no_pragma : is_pragma line ≡ false = ap is_pragma found.whole ∙ (rw no_p refl) in
    let no_ident : starts_with nat_eq line (codes "#ident") ≡ false = ap (λ (l : List ℕ). starts_with nat_eq l (codes "#ident")) found.whole ∙ (rw no_i refl) in
    (both_no (is_pragma line) _ no_pragma, false_and (not (is_pack line)) _ (false_or (is_pragma line) _ no_pragma no_ident))
  where
    both_no : (first second : Bool) → first ≡ false → (first && second) ≡ false
    both_no first second h = rw h refl

pub marker_at-exact : (line : List ℕ) (number : ℕ) (name : List ℕ) → IsMarker line number name → marker_at line ≡ Some (record { number = number; name = name })
unfolding marker_at
marker_at-exact line number name marker = by_opening (opened_from_marker line number name marker).opens
  where
    opened : IsOpened line number name
    opened = opened_from_marker line number name marker

    end : prefix_len is_blank opened.rest ≡ 0
    end = digits_end_blanks opened.rest number name opened.follows

    read : number_and_name opened.rest ≡ Some (record { number = number; name = name })
    read = number_and_name-exact opened.rest number name opened.follows

    full : (blanks : List ℕ) → list_all is_blank blanks ≡ true → is_empty blanks ≡ false → begins_with_blank (blanks ++ opened.rest) ≡ true
    full [] are_blank some = absurd cc
    full (blank ∷ blanks) are_blank some = (both_true (is_blank blank) (list_all is_blank blanks) are_blank).0

    by_opening : IsOpening opened.opening → marker_at line ≡ Some (record { number = number; name = name })
    by_opening (blanks, are_blank, inl is) =
        let whole : line ≡ 35 ∷ (blanks ++ opened.rest) = opened.whole ∙ ap (λ (o : List ℕ). o ++ opened.rest) is in
        let (second, others, split, low) = low_from_row blanks opened.rest number name are_blank opened.follows in
        let no_l : nat_eq 108 second ≡ false = ne_eqb 108 second (λ e. omega (arith, e, low_bound second low)) in
        let no_line : starts_with nat_eq (35 ∷ (blanks ++ opened.rest)) (codes "#line") ≡ false =
        ap (λ (t : List ℕ). starts_with nat_eq (35 ∷ t) (codes "#line")) split ∙ rw no_l refl in
        rw whole (chosen_no (starts_with nat_eq (35 ∷ (blanks ++ opened.rest)) (codes "#line")) _ _ no_line
        ∙ (ap number_and_name (unblanked-row blanks opened.rest are_blank end) ∙ read))
    by_opening (blanks, are_blank, inr (is, some)) =
        let whole : line ≡ (35 ∷ (108 ∷ (105 ∷ (110 ∷ (101 ∷ []))))) ++ (blanks ++ opened.rest) = opened.whole ∙ ap (λ (o : List ℕ). o ++ opened.rest) is in
        rw whole (chosen_yes (begins_with_blank (blanks ++ opened.rest)) _ _ (full blanks are_blank some)
        ∙ (ap number_and_name (unblanked-row blanks opened.rest are_blank end) ∙ read))

-- the other way round

rest_from_name : (text : List ℕ) (number : ℕ) (gap digits : List ℕ) (others : List ℕ) (found : FoundMarker) → text ≡ digits ++ (gap ++ (34 ∷ others))
    → AreDigits digits number → list_all is_blank gap ≡ true → flagged number others (name_at false others) ≡ Some found → IsRest text found.number found.name
rest_from_name text number gap digits others found whole are_digits are_blank h = by_name (name_at false others) refl h
  where
    by_name : (name : Option FoundName) → name_at false others ≡ name → flagged number others name ≡ Some found → IsRest text found.number found.name
    by_name None is h = absurd cc
    by_name (Some name) is h =
        from_choice (IsRest text found.number found.name) (list_all is_flag_byte (drop name.taken others)) _ None (Some found) h
        (λ flags same.
        let marker : FoundMarker = record { number = number; name = name.name } in
        let is_found : marker ≡ found = cc in
        let has = name_at-sound false others name is in
        let here : IsRest text number name.name = record {
          digits = digits;
          gap = gap;
          flags = drop name.taken others;
          whole = whole ∙ ap (λ (t : List ℕ). digits ++ (gap ++ (34 ∷ t))) has.whole;
          numbers = are_digits;
          are_blank = are_blank;
          are_flags = flags;
        } in
        subst (λ (m : FoundMarker). IsRest text m.number m.name) is_found here)
        (λ no_flags none. absurd cc)

number_and_name-sound : (text : List ℕ) (found : FoundMarker) → number_and_name text ≡ Some found → IsRest text found.number found.name
unfolding number_and_name name_and_flags
number_and_name-sound text found h =
    from_choice (IsRest text found.number found.name) (nat_eq (prefix_len is_digit text) 0) None _ (Some found) h
    (λ none is. absurd cc)
    (λ some later. by_number (line_number 0 (take (prefix_len is_digit text) text)) refl later some)
  where
    digits : List ℕ
    digits = take (prefix_len is_digit text) text

    behind : List ℕ
    behind = drop (prefix_len is_digit text) text

    full : (text : List ℕ) → nat_eq (prefix_len is_digit text) 0 ≡ false → is_empty (take (prefix_len is_digit text) text) ≡ false
    full [] some = absurd cc
    full (first ∷ others) some = first_digit (is_digit first) refl some
      where
        first_digit : (test : Bool) → is_digit first ≡ test → nat_eq (cond test (1 + prefix_len is_digit others) 0) 0 ≡ false
            → is_empty (take (cond test (1 + prefix_len is_digit others) 0) (first ∷ others)) ≡ false
        first_digit true is some =
            let one : 1 + prefix_len is_digit others ≡ suc (prefix_len is_digit others) = omega arith in ap (λ (n : ℕ). is_empty (take n (first ∷ others))) one
        first_digit false is some = absurd cc

    named : (number : ℕ) → line_number 0 digits ≡ Some number → nat_eq (prefix_len is_digit text) 0 ≡ false → (rest : List ℕ) → unblanked behind ≡ rest
        → name_and_flags number rest ≡ Some found → IsRest text found.number found.name
    named number is some [] follows h = absurd cc
    named number is some (first ∷ others) follows h =
        from_choice (IsRest text found.number found.name) (nat_eq first 34) _ None (Some found) h
        (λ quote later.
        let (value, in_range) = line_number-sound 0 digits number (omega arith) is in
        let gap : List ℕ = take (prefix_len is_blank behind) behind in
        let whole : text ≡ digits ++ (gap ++ (34 ∷ others)) =
        sym (take-append-drop (prefix_len is_digit text) text)
        ∙ ap (λ (t : List ℕ). digits ++ t) (sym (take-append-drop (prefix_len is_blank behind) behind)
        ∙ ap (λ (t : List ℕ). gap ++ t) (follows ∙ ap (λ (b : ℕ). b ∷ others) (eqb-true first 34 quote))) in
        rest_from_name text number gap digits others found whole
        (record { some = full text some; decimal = list_all-take_row is_digit text; value = value; in_range = in_range })
        (list_all-take_row is_blank behind) later)
        (λ no_quote none. absurd cc)

    by_number : (number : Option ℕ) → line_number 0 digits ≡ number → numbered (unblanked behind) number ≡ Some found → nat_eq (prefix_len is_digit text) 0 ≡ false
        → IsRest text found.number found.name
    by_number None is h some = absurd cc
    by_number (Some number) is h some = named number is some (unblanked behind) refl h

pub marker_at-sound : (line rest : List ℕ) → line ≡ 35 ∷ rest → (found : FoundMarker) → marker_at line ≡ Some found → IsMarker line found.number found.name
unfolding marker_at
marker_at-sound line rest hash found h =
    from_choice (IsMarker line found.number found.name) (starts_with nat_eq line (codes "#line")) _ _ (Some found) h
    (λ with_line later.
    from_choice (IsMarker line found.number found.name) (begins_with_blank (drop 5 line)) _ None (Some found) later
    (λ blank read.
    marker_from_opened line found.number found.name
    (record {
      opening = codes "#line" ++ take (prefix_len is_blank (drop 5 line)) (drop 5 line);
      rest = unblanked (drop 5 line);
      whole = split_line line with_line ∙ ap (λ (t : List ℕ). codes "#line" ++ t) (sym (take-append-drop (prefix_len is_blank (drop 5 line)) (drop 5 line)));
      opens = (take (prefix_len is_blank (drop 5 line)) (drop 5 line), list_all-take_row is_blank (drop 5 line), inr (refl, full (drop 5 line) blank));
      follows = number_and_name-sound (unblanked (drop 5 line)) found read;
    }))
    (λ no_blank none. absurd cc))
    (λ without_line read.
    marker_from_opened line found.number found.name
    (record {
      opening = codes "#" ++ take (prefix_len is_blank (drop 1 line)) (drop 1 line);
      rest = unblanked (drop 1 line);
      whole = hash ∙ ap (λ (t : List ℕ). 35 ∷ t) (ap (drop 1) (sym hash) ∙ sym (take-append-drop (prefix_len is_blank (drop 1 line)) (drop 1 line)));
      opens = (take (prefix_len is_blank (drop 1 line)) (drop 1 line), list_all-take_row is_blank (drop 1 line), inl refl);
      follows = number_and_name-sound (unblanked (drop 1 line)) found read;
    }))
  where
    split_line : (line : List ℕ) → starts_with nat_eq line (codes "#line") ≡ true → line ≡ codes "#line" ++ drop 5 line
    split_line line h = sym (take-append-drop 5 line) ∙ ap (λ (front : List ℕ). front ++ drop 5 line) (sym ((bytes_eq-Decides (codes "#line") (take 5 line)).0 h))

    full : (text : List ℕ) → begins_with_blank text ≡ true → is_empty (take (prefix_len is_blank text) text) ≡ false
    full [] h = absurd cc
    full (first ∷ others) h =
        let one : prefix_len is_blank (first ∷ others) ≡ suc (prefix_len is_blank others) = ap (λ (b : Bool). cond b (1 + prefix_len is_blank others) 0) h ∙ omega arith in
        ap (λ (n : ℕ). is_empty (take n (first ∷ others))) one
