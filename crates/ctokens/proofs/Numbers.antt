-- Words and preprocessing numbers: what is found at the front of a text is the longest.
use Rattle.std.specs.Prelude.{◌≡◌, ℕ, zero, suc, ◌+◌, ◌≤◌, ◌<◌, Bool, true, false, List, [], ◌∷◌, length, take, nat_eq, nat_le, if◌then◌else◌}
use Rattle.std.specs.List.{list_all, prefix_len}
use Rattle.std.proofs.Common.{refl, subst, arith}
use Rattle.std.proofs.lemmas.Bool.{leb-true, ne_eqb}
use Rattle.std.proofs.lemmas.List.Sums.{prefix_len-le-length}
use Rattle.ctokens.proofs.Choices.{both_true, true_and, chosen_yes, chosen_no, either_true, or_true}
use Rattle.ctokens.proofs.Rows.{row_covers, list_all-take_row}
use Rattle.ctokens.proofs.Pointed.{pointed, pointed-some, pointed-small}
use Rattle.cbase.specs.Bytes.{is_digit}
use Rattle.ctokens.specs.Bytes.{begins_word, is_word_byte}
use Rattle.ctokens.specs.Spelled.{continues, are_continued, is_number_from_digit, is_word, is_number}
use Rattle.ctokens.specs.Lengths.{continued_length, word_length, digits_length, number_length}

pub word_length-reaches : (text : List ℕ) → 0 < word_length text → is_word (take (word_length text) text) ≡ true
unfolding word_length
word_length-reaches [] some = absurd (omega arith)
word_length-reaches (first ∷ others) some = step (begins_word first) refl some
  where
    step : (begins : Bool) → begins_word first ≡ begins → 0 < (if begins then 1 + prefix_len is_word_byte others else 0)
        → is_word (take (if begins then 1 + prefix_len is_word_byte others else 0) (first ∷ others)) ≡ true
    step true is_first some =
        let one : 1 + prefix_len is_word_byte others ≡ suc (prefix_len is_word_byte others) = omega arith in
        rw one (true_and (begins_word first) _ is_first (list_all-take_row is_word_byte others))
    step false is_first some = absurd (omega arith)

pub word_length-most : (text : List ℕ) (count : ℕ) → count ≤ length text → is_word (take count text) ≡ true → count ≤ word_length text
unfolding word_length
word_length-most text zero inside h = omega arith
word_length-most [] (suc count) inside h = absurd (omega arith)
word_length-most (first ∷ others) (suc count) inside h =
    let (is_first, are_others) = both_true (begins_word first) (list_all is_word_byte (take count others)) h in
    let tail = row_covers is_word_byte others count are_others (omega arith) in
    let here : (if begins_word first then 1 + prefix_len is_word_byte others else 0) ≡ 1 + prefix_len is_word_byte others = chosen_yes (begins_word first) _ _ is_first in
    omega (arith, tail, here)

pub word_length-inside : (text : List ℕ) → word_length text ≤ length text
unfolding word_length
word_length-inside [] = omega arith
word_length-inside (first ∷ others) = step (begins_word first)
  where
    step : (begins : Bool) → (if begins then 1 + prefix_len is_word_byte others else 0) ≤ length (first ∷ others)
    step true = omega (arith, prefix_len-le-length is_word_byte others)
    step false = omega arith

continued_length-reaches : (before : ℕ) (text : List ℕ) → are_continued before (take (continued_length before text) text) ≡ true
continued_length-reaches before [] = refl
continued_length-reaches before (byte ∷ others) = step (continues before byte) refl (continued_length-reaches byte others)
  where
    step : (goes : Bool) → continues before byte ≡ goes → are_continued byte (take (continued_length byte others) others) ≡ true
        → are_continued before (take (if goes then 1 + continued_length byte others else 0) (byte ∷ others)) ≡ true
    step true is_next tail =
        let one : 1 + continued_length byte others ≡ suc (continued_length byte others) = omega arith in
        rw one (true_and (continues before byte) _ is_next tail)
    step false is_next tail = refl

continued_length-most : (before : ℕ) (text : List ℕ) (count : ℕ) → count ≤ length text → are_continued before (take count text) ≡ true
    → count ≤ continued_length before text
continued_length-most before text zero inside h = omega arith
continued_length-most before [] (suc count) inside h = absurd (omega arith)
continued_length-most before (byte ∷ others) (suc count) inside h =
    let (is_next, are_others) = both_true (continues before byte) (are_continued byte (take count others)) h in
    let tail = continued_length-most byte others count (omega arith) are_others in
    let here : (if continues before byte then 1 + continued_length byte others else 0) ≡ 1 + continued_length byte others = chosen_yes (continues before byte) _ _ is_next in
    omega (arith, tail, here)

continued_length-inside : (before : ℕ) (text : List ℕ) → continued_length before text ≤ length text
continued_length-inside before [] = omega arith
continued_length-inside before (byte ∷ others) = step (continues before byte) (continued_length-inside byte others)
  where
    step : (goes : Bool) → continued_length byte others ≤ length others → (if goes then 1 + continued_length byte others else 0) ≤ length (byte ∷ others)
    step true tail = omega arith
    step false tail = omega arith

digits_length-reaches : (text : List ℕ) → 0 < digits_length text → is_number_from_digit (take (digits_length text) text) ≡ true
unfolding digits_length
digits_length-reaches [] some = absurd (omega arith)
digits_length-reaches (first ∷ others) some = step (is_digit first) refl some
  where
    step : (begins : Bool) → is_digit first ≡ begins → 0 < (if begins then 1 + continued_length first others else 0)
        → is_number_from_digit (take (if begins then 1 + continued_length first others else 0) (first ∷ others)) ≡ true
    step true is_first some =
        let one : 1 + continued_length first others ≡ suc (continued_length first others) = omega arith in
        rw one (true_and (is_digit first) _ is_first (continued_length-reaches first others))
    step false is_first some = absurd (omega arith)

digits_length-most : (text : List ℕ) (count : ℕ) → count ≤ length text → is_number_from_digit (take count text) ≡ true → count ≤ digits_length text
unfolding digits_length
digits_length-most text zero inside h = omega arith
digits_length-most [] (suc count) inside h = absurd (omega arith)
digits_length-most (first ∷ others) (suc count) inside h =
    let (is_first, are_others) = both_true (is_digit first) (are_continued first (take count others)) h in
    let tail = continued_length-most first others count (omega arith) are_others in
    let here : (if is_digit first then 1 + continued_length first others else 0) ≡ 1 + continued_length first others = chosen_yes (is_digit first) _ _ is_first in
    omega (arith, tail, here)

digits_length-inside : (text : List ℕ) → digits_length text ≤ length text
unfolding digits_length
digits_length-inside [] = omega arith
digits_length-inside (first ∷ others) = step (is_digit first)
  where
    step : (begins : Bool) → (if begins then 1 + continued_length first others else 0) ≤ length (first ∷ others)
    step true = omega (arith, continued_length-inside first others)
    step false = omega arith

pub number_length-reaches : (text : List ℕ) → 0 < number_length text → is_number (take (number_length text) text) ≡ true
unfolding number_length
number_length-reaches [] some = absurd (omega arith)
number_length-reaches (first ∷ others) some = step (nat_eq first 46) refl some
  where
    behind_point : (count : ℕ) → digits_length others ≡ count → nat_eq first 46 ≡ true → 0 < pointed count → is_number (take (pointed count) (first ∷ others)) ≡ true
    behind_point zero is_count is_point some = absurd (omega arith)
    behind_point (suc count) is_count is_point some =
        rw (pointed-some (suc count) (omega arith))
        (or_true (is_number_from_digit (first ∷ take (suc count) others)) _
        (true_and (nat_eq first 46) _ is_point
        (let P : ℕ → Type 0 = λ n. is_number_from_digit (take n others) ≡ true in subst P is_count (digits_length-reaches others (omega arith)))))

    from_digit : (count : ℕ) → 0 < count → is_number_from_digit (take count (first ∷ others)) ≡ true → is_number (take count (first ∷ others)) ≡ true
    from_digit zero some h = absurd (omega arith)
    from_digit (suc count) some h = rw h refl

    step : (point : Bool) → nat_eq first 46 ≡ point → 0 < (if point then pointed (digits_length others) else digits_length (first ∷ others))
        → is_number (take (if point then pointed (digits_length others) else digits_length (first ∷ others)) (first ∷ others)) ≡ true
    step true is_point some = behind_point (digits_length others) refl is_point some
    step false is_point some = from_digit (digits_length (first ∷ others)) some (digits_length-reaches (first ∷ others) some)

-- a digit is no `.`
pub digit_is_no_point : (byte : ℕ) → is_digit byte ≡ true → nat_eq byte 46 ≡ false
digit_is_no_point byte h =
    let (low, high) = both_true (nat_le 48 byte) (nat_le byte 57) h in
    ne_eqb byte 46 (λ e. omega (arith, e, leb-true 48 byte low))

pub number_length-most : (text : List ℕ) (count : ℕ) → count ≤ length text → is_number (take count text) ≡ true → count ≤ number_length text
unfolding number_length
number_length-most text zero inside h = omega arith
number_length-most [] (suc count) inside h = absurd (omega arith)
number_length-most (first ∷ others) (suc count) inside h =
    either_true (suc count ≤ number_length (first ∷ others)) (is_number_from_digit (first ∷ take count others)) _ h
    (λ digits.
    let (is_first, _others) = both_true (is_digit first) (are_continued first (take count others)) digits in
    let most = digits_length-most (first ∷ others) (suc count) inside digits in
    let here : (if nat_eq first 46 then pointed (digits_length others) else digits_length (first ∷ others)) ≡ digits_length (first ∷ others) = chosen_no (nat_eq first 46) _ _ (digit_is_no_point first is_first) in
    omega (arith, most, here))
    (λ point.
    let (is_point, digits) = both_true (nat_eq first 46) (is_number_from_digit (take count others)) point in
    let most = digits_length-most others count (omega arith) digits in
    let some = some_digits count digits in
    let here : (if nat_eq first 46 then pointed (digits_length others) else digits_length (first ∷ others)) ≡ pointed (digits_length others) = chosen_yes (nat_eq first 46) _ _ is_point in
    omega (arith, most, here, pointed-some (digits_length others) (omega arith)))
  where
    some_digits : (count : ℕ) → is_number_from_digit (take count others) ≡ true → 0 < count
    some_digits zero h = absurd cc
    some_digits (suc count) h = omega arith

pub number_length-inside : (text : List ℕ) → number_length text ≤ length text
unfolding number_length
number_length-inside [] = omega arith
number_length-inside (first ∷ others) = step (nat_eq first 46)
  where
    step : (point : Bool) → (if point then pointed (digits_length others) else digits_length (first ∷ others)) ≤ length (first ∷ others)
    step true = pointed-small (digits_length others) (length others) (digits_length-inside others)
    step false = digits_length-inside (first ∷ others)
