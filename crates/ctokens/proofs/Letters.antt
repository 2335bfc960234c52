-- Character constants: what is found at the front of a text is the only one.
use Rattle.std.specs.Prelude.{◌≡◌, ℕ, zero, suc, ◌+◌, ◌≤◌, ◌<◌, Bool, true, false, ◌&&◌, ◌||◌, not, min, List, [], ◌∷◌, ◌++◌, length, take, drop, nat_eq, nat_le, codes, if◌then◌else◌}
use Rattle.std.specs.List.{list_all, prefix_len}
use Rattle.std.proofs.Common.{refl, sym, ◌∙◌, ap, subst, arith, get_or, length-append, length-take-le, eq-eqb, le-leb}
use Rattle.std.proofs.lemmas.Bool.{eqb-true, leb-true, leb-false, ne_eqb}
use Rattle.std.proofs.lemmas.List.{get_or_at, get_or_past, take_more, take-append-drop, append_assoc}
use Rattle.std.proofs.lemmas.List.Sums.{prefix_len-le-length}
use Rattle.ctokens.proofs.Choices.{both_true, true_and, chosen_yes, chosen_no, either_true, or_true, from_choice, of_any}
use Rattle.ctokens.proofs.Rows.{prefix_len-append_row, list_all-take_le}
use Rattle.ctokens.proofs.Pointed.{pointed, pointed-some}
use Rattle.ctokens.specs.Bytes.{is_empty, is_octal_digit, is_hexadecimal_digit}
use Rattle.ctokens.specs.Spelled.{is_plain, is_simple_escape, are_octal, is_escape, is_character}
use Rattle.ctokens.specs.Lengths.{escape_length, character_length, letter_length}

-- a list whose elements all pass is a row that ends at the quote
row_to_quote : (test : ℕ → Bool) (row rest : List ℕ) → test 39 ≡ false → list_all test row ≡ true → prefix_len test (row ++ 39 ∷ rest) ≡ length row
row_to_quote test row rest stops passes =
    let whole = prefix_len-append_row test row (39 ∷ rest) passes in
    let end : prefix_len test (39 ∷ rest) ≡ 0 = rw stops refl in
    omega (arith, whole, end)

-- an octal digit is no simple escape
octal_is_not_simple : (byte : ℕ) → is_octal_digit byte ≡ true → (simple : Bool) → is_simple_escape byte ≡ simple → simple ≡ false
octal_is_not_simple byte octal true is =
    let no_octal : not (is_octal_digit byte) ≡ true = of_any (λ b. not (is_octal_digit b)) (codes "'\"?\\abfnrtv") byte is refl in
    let clash : not true ≡ true = subst (λ (b : Bool). not b ≡ true) octal no_octal in absurd cc
octal_is_not_simple byte octal false is = refl

empty_is_nil : (row : List ℕ) → is_empty row ≡ true → row ≡ []
empty_is_nil [] h = refl
empty_is_nil (first ∷ others) h = absurd cc

some_length : (row : List ℕ) → not (is_empty row) ≡ true → 0 < length row
some_length [] h = absurd cc
some_length (first ∷ others) h = omega arith

some_row : (row : List ℕ) → 0 < length row → not (is_empty row) ≡ true
some_row [] h = absurd (omega arith)
some_row (first ∷ others) h = refl

-- an escape in front of the closing quote takes its own bytes
escape_length-exact : (escape rest : List ℕ) → is_escape escape ≡ true → escape_length (escape ++ 39 ∷ rest) ≡ length escape
unfolding escape_length
escape_length-exact [] rest h = absurd cc
escape_length-exact (first ∷ others) rest h =
    either_true (escape_length ((first ∷ others) ++ 39 ∷ rest) ≡ length (first ∷ others)) (is_simple_escape first && is_empty others) _ h
    (λ simple.
    let (is_simple, none) = both_true (is_simple_escape first) (is_empty others) simple in
    let nil = empty_is_nil others none in
    let one : length (first ∷ others) ≡ 1 = ap (λ (row : List ℕ). length (first ∷ row)) nil in
    chosen_yes (is_simple_escape first) _ _ is_simple ∙ sym one)
    (λ later.
    either_true (escape_length ((first ∷ others) ++ 39 ∷ rest) ≡ length (first ∷ others)) (are_octal (first ∷ others)) _ later
    (λ octal.
    let (some, small) = both_true (not (is_empty (first ∷ others))) _ octal in
    let (short, all) = both_true (nat_le (length (first ∷ others)) 3) _ small in
    let (is_octal, all_others) = both_true (is_octal_digit first) (list_all is_octal_digit others) all in
    let no_simple = octal_is_not_simple first is_octal (is_simple_escape first) refl in
    let row = row_to_quote is_octal_digit (first ∷ others) rest refl all in
    chosen_no (is_simple_escape first) _ _ no_simple ∙ (chosen_yes (is_octal_digit first) _ _ is_octal
    ∙ omega (arith, row, leb-true (length (first ∷ others)) 3 short)))
    (λ hexadecimal.
    let (mark, digits) = both_true (nat_eq first 120) _ hexadecimal in
    let (some, all) = both_true (not (is_empty others)) _ digits in
    let row = row_to_quote is_hexadecimal_digit others rest refl all in
    let is_x : first ≡ 120 = eqb-true first 120 mark in
    let here : escape_length (120 ∷ (others ++ 39 ∷ rest)) ≡ pointed (prefix_len is_hexadecimal_digit (others ++ 39 ∷ rest)) = refl in
    rw is_x (here ∙ (ap pointed row ∙ pointed-some (length others) (some_length others some)))))

-- a character in front of the closing quote takes its own bytes
character_length-exact : (character rest : List ℕ) → is_character character ≡ true → character_length (character ++ 39 ∷ rest) ≡ length character
unfolding character_length
character_length-exact [] rest h = absurd cc
character_length-exact (first ∷ others) rest h =
    from_choice (character_length ((first ∷ others) ++ 39 ∷ rest) ≡ length (first ∷ others)) (nat_eq first 92) (is_escape others) (is_plain first && is_empty others) true h
    (λ slash escape.
    chosen_yes (nat_eq first 92) _ _ slash
    ∙ (ap pointed (escape_length-exact others rest escape) ∙ pointed-some (length others) (some_escape others escape)))
    (λ no_slash plain.
    let (is_one, none) = both_true (is_plain first) (is_empty others) plain in
    let nil = empty_is_nil others none in
    let one : length (first ∷ others) ≡ 1 = ap (λ (row : List ℕ). length (first ∷ row)) nil in
    chosen_no (nat_eq first 92) _ _ no_slash ∙ (chosen_yes (is_plain first) _ _ is_one ∙ sym one))
  where
    some_escape : (others : List ℕ) → is_escape others ≡ true → 0 < length others
    some_escape [] h = absurd cc
    some_escape (next ∷ others) h = omega arith

escape_length-reaches : (text : List ℕ) → 0 < escape_length text → is_escape (take (escape_length text) text) ≡ true
unfolding escape_length
escape_length-reaches [] some = absurd (omega arith)
escape_length-reaches (first ∷ others) some = simple (is_simple_escape first) refl some
  where
    octal_row : (count : ℕ) → count ≡ min 3 (prefix_len is_octal_digit (first ∷ others)) → 0 < count → is_escape (take count (first ∷ others)) ≡ true
    octal_row zero is some = absurd (omega arith)
    octal_row (suc count) is some =
        let digits : List ℕ = first ∷ take count others in
        let all : list_all is_octal_digit digits ≡ true = list_all-take_le is_octal_digit (first ∷ others) (suc count) (omega arith) in
        let short : nat_le (length digits) 3 ≡ true = shorter count (omega arith) in
        or_true (is_simple_escape first && is_empty (take count others)) _ (either (are_octal digits) _ (true_and (nat_le (length digits) 3) _ short all))
      where
        either : (a b : Bool) → a ≡ true → (a || b) ≡ true
        either a b h = rw h refl

        shorter : (count : ℕ) → count ≤ 2 → nat_le (suc (length (take count others))) 3 ≡ true
        shorter count small = le-leb (suc (length (take count others))) 3 (omega (arith, length_take count others))
          where
            length_take : (count : ℕ) (others : List ℕ) → length (take count others) ≤ count
            length_take zero others = omega arith
            length_take (suc count) [] = omega arith
            length_take (suc count) (next ∷ others) = omega (arith, length_take count others)

    hex_row : (count : ℕ) → count ≡ prefix_len is_hexadecimal_digit others → nat_eq first 120 ≡ true → 0 < pointed count → is_escape (take (pointed count) (first ∷ others)) ≡ true
    hex_row zero is mark some = absurd (omega arith)
    hex_row (suc count) is mark some =
        let digits : List ℕ = take (suc count) others in
        let all : list_all is_hexadecimal_digit digits ≡ true = list_all-take_le is_hexadecimal_digit others (suc count) (omega arith) in
        let inside = prefix_len-le-length is_hexadecimal_digit others in
        let full : not (is_empty digits) ≡ true = front_some others (omega arith) in
        rw (pointed-some (suc count) (omega arith))
        (or_true (is_simple_escape first && is_empty digits) _ (or_true (are_octal (first ∷ digits)) _ (true_and (nat_eq first 120) _ mark (true_and (not (is_empty digits)) _ full all))))
      where
        front_some : (others : List ℕ) → suc count ≤ length others → not (is_empty (take (suc count) others)) ≡ true
        front_some [] h = absurd (omega arith)
        front_some (next ∷ others) h = refl

    hex : (test : Bool) → nat_eq first 120 ≡ test → 0 < (if test then pointed (prefix_len is_hexadecimal_digit others) else 0)
        → is_escape (take (if test then pointed (prefix_len is_hexadecimal_digit others) else 0) (first ∷ others)) ≡ true
    hex true is some = hex_row (prefix_len is_hexadecimal_digit others) refl is some
    hex false is some = absurd (omega arith)

    octal : (test : Bool) → is_octal_digit first ≡ test
        → 0 < (if test then min 3 (prefix_len is_octal_digit (first ∷ others)) else (if nat_eq first 120 then pointed (prefix_len is_hexadecimal_digit others) else 0))
        → is_escape (take (if test then min 3 (prefix_len is_octal_digit (first ∷ others)) else (if nat_eq first 120 then pointed (prefix_len is_hexadecimal_digit others) else 0)) (first ∷ others)) ≡ true
    octal true is some = octal_row (min 3 (prefix_len is_octal_digit (first ∷ others))) refl some
    octal false is some = hex (nat_eq first 120) refl some

    simple : (test : Bool) → is_simple_escape first ≡ test
        → 0 < (if test then 1 else (if is_octal_digit first then min 3 (prefix_len is_octal_digit (first ∷ others)) else (if nat_eq first 120 then pointed (prefix_len is_hexadecimal_digit others) else 0)))
        → is_escape (take (if test then 1 else (if is_octal_digit first then min 3 (prefix_len is_octal_digit (first ∷ others)) else (if nat_eq first 120 then pointed (prefix_len is_hexadecimal_digit others) else 0))) (first ∷ others)) ≡ true
    simple true is some = rw is refl
    simple false is some = octal (is_octal_digit first) refl some

character_length-reaches : (text : List ℕ) → 0 < character_length text → is_character (take (character_length text) text) ≡ true
unfolding character_length
character_length-reaches [] some = absurd (omega arith)
character_length-reaches (first ∷ others) some = slash (nat_eq first 92) refl some
  where
    escaped : (count : ℕ) → count ≡ escape_length others → nat_eq first 92 ≡ true → 0 < pointed count → is_character (take (pointed count) (first ∷ others)) ≡ true
    escaped zero is is_slash some = absurd (omega arith)
    escaped (suc count) is is_slash some =
        rw (pointed-some (suc count) (omega arith))
        (chosen_yes (nat_eq first 92) _ _ is_slash
        ∙ (let P : ℕ → Type 0 = λ n. is_escape (take n others) ≡ true in subst P (sym is) (escape_length-reaches others (omega arith))))

    plain : (test : Bool) → is_plain first ≡ test → nat_eq first 92 ≡ false → 0 < (if test then 1 else 0) → is_character (take (if test then 1 else 0) (first ∷ others)) ≡ true
    plain true is no_slash some = chosen_no (nat_eq first 92) _ _ no_slash ∙ true_and (is_plain first) true is refl
    plain false is no_slash some = absurd (omega arith)

    slash : (test : Bool) → nat_eq first 92 ≡ test → 0 < (if test then pointed (escape_length others) else (if is_plain first then 1 else 0))
        → is_character (take (if test then pointed (escape_length others) else (if is_plain first then 1 else 0)) (first ∷ others)) ≡ true
    slash true is some = escaped (escape_length others) refl is some
    slash false is some = plain (is_plain first) refl is some

-- the bytes are a character constant, as the definition of tokens says it
abbrev pub IsLetter : List ℕ → Type 0
IsLetter bytes = (character : List ℕ) × (bytes ≡ 39 ∷ (character ++ 39 ∷ [])) × (is_character character ≡ true)

-- a character constant at the front of a text is what is found
pub letter_length-exact : (text : List ℕ) (count : ℕ) → count ≤ length text → IsLetter (take count text) → letter_length text ≡ count
unfolding letter_length
letter_length-exact text count inside (character, is, is_one) =
    let rest : List ℕ = drop count text in
    let whole : text ≡ 39 ∷ (character ++ 39 ∷ rest) =
    sym (take-append-drop count text) ∙ (ap (λ (front : List ℕ). front ++ rest) is ∙ ap (λ (l : List ℕ). 39 ∷ l) (append_assoc character (39 ∷ []) rest)) in
    let taken : count ≡ length character + 2 =
    omega (arith, length-take-le count text inside, ap length is, length-append character (39 ∷ [])) in
    let counted = character_length-exact character rest is_one in
    let quote : get_or (character ++ 39 ∷ rest) (length character) 0 ≡ 39 = get_or_at character 39 rest 0 (length character) refl in
    rw whole (rw counted (found (length character) (some_character character is_one) (get_or (character ++ 39 ∷ rest) (length character) 0) quote ∙ omega (arith, taken)))
  where
    some_character : (character : List ℕ) → is_character character ≡ true → 0 < length character
    some_character [] h = absurd cc
    some_character (first ∷ others) h = omega arith

    found : (size : ℕ) → 0 < size → (byte : ℕ) → byte ≡ 39 → (if not (nat_eq size 0) && nat_eq byte 39 then 2 + size else 0) ≡ 2 + size
    found size some byte is =
        chosen_yes (not (nat_eq size 0) && nat_eq byte 39) _ _
        (true_and (not (nat_eq size 0)) _ (ap not (ne_eqb size 0 (λ e. omega (arith, e)))) (eq-eqb byte 39 is))

-- a quote that is read in a text stands inside it
quote_inside : (text : List ℕ) (index : ℕ) → get_or text index 0 ≡ 39 → index < length text
quote_inside text index is = step (nat_le (length text) index) refl
  where
    step : (past : Bool) → nat_le (length text) index ≡ past → index < length text
    step true past = let none : 0 ≡ 39 = sym (get_or_past text index 0 (leb-true (length text) index past)) ∙ is in absurd (omega (arith, none))
    step false past = leb-false (length text) index past

some_size : (size : ℕ) → not (nat_eq size 0) ≡ true → 0 < size
some_size zero h = absurd cc
some_size (suc size) h = omega arith

pub letter_length-reaches : (text : List ℕ) → 0 < letter_length text → IsLetter (take (letter_length text) text)
unfolding letter_length
letter_length-reaches [] some = absurd (omega arith)
letter_length-reaches (first ∷ others) some = step (nat_eq first 39 && (not (nat_eq (character_length others) 0) && nat_eq (get_or others (character_length others) 0) 39)) refl some
  where
    between : (size : ℕ) → size ≡ character_length others → nat_eq first 39 ≡ true → 0 < size → get_or others size 0 ≡ 39 → IsLetter (take (2 + size) (first ∷ others))
    between size is is_quote some closes =
        let within : size < length others = quote_inside others size closes in
        let more : take (size + 1) others ≡ take size others ++ 39 ∷ [] = take_more others size 0 within ∙ ap (λ (b : ℕ). take size others ++ b ∷ []) closes in
        let two : 2 + size ≡ suc (size + 1) = omega arith in
        let same : first ≡ 39 = eqb-true first 39 is_quote in (
          take size others,
          rw (two, same) (ap (λ (l : List ℕ). 39 ∷ l) more),
          let P : ℕ → Type 0 = λ n. is_character (take n others) ≡ true in subst P (sym is) (character_length-reaches others (omega (arith, is))),
        )

    step : (test : Bool) → (nat_eq first 39 && (not (nat_eq (character_length others) 0) && nat_eq (get_or others (character_length others) 0) 39)) ≡ test
        → 0 < (if test then 2 + character_length others else 0) → IsLetter (take (if test then 2 + character_length others else 0) (first ∷ others))
    step true is some =
        let (is_quote, later) = both_true (nat_eq first 39) _ is in
        let (size, closes) = both_true (not (nat_eq (character_length others) 0)) _ later in
        between (character_length others) refl is_quote (some_size (character_length others) size) (eqb-true _ 39 closes)
    step false is some = absurd (omega arith)

pub letter_length-inside : (text : List ℕ) → letter_length text ≤ length text
unfolding letter_length
letter_length-inside [] = omega arith
letter_length-inside (first ∷ others) = step (nat_eq first 39 && (not (nat_eq (character_length others) 0) && nat_eq (get_or others (character_length others) 0) 39)) refl
  where
    step : (test : Bool) → (nat_eq first 39 && (not (nat_eq (character_length others) 0) && nat_eq (get_or others (character_length others) 0) 39)) ≡ test
        → (if test then 2 + character_length others else 0) ≤ length (first ∷ others)
    step true is =
        let (is_quote, later) = both_true (nat_eq first 39) _ is in
        let (size, closes) = both_true (not (nat_eq (character_length others) 0)) _ later in
        omega (arith, quote_inside others (character_length others) (eqb-true _ 39 closes))
    step false is = omega arith
