-- The first bytes of a token decide its kind.
use Rattle.std.specs.Prelude.{◌≡◌, ℕ, zero, suc, ◌≤◌, ◌<◌, Bool, true, false, ◌&&◌, ◌||◌, not, List, [], ◌∷◌, take, nat_eq, nat_le, if◌then◌else◌, ◌⊎◌}
use Rattle.std.specs.List.{list_all}
use Rattle.std.proofs.Common.{refl, sym, ◌∙◌, ap, arith, inl, inr}
use Rattle.std.proofs.lemmas.Bool.{eqb-true, leb-true, ne_eqb, lt-leb}
use Rattle.ctokens.proofs.Choices.{both_true, false_and, false_or, chosen_yes, chosen_no, either_true, of_any, of_any_row}
use Rattle.cbase.specs.Bytes.{is_between, is_digit}
use Rattle.ctokens.specs.Bytes.{is_blank, is_nondigit, begins_word, is_word_byte}
use Rattle.ctokens.specs.Marks.{single_marks, double_marks, triple_marks, is_mark}
use Rattle.ctokens.specs.Spelled.{are_continued, is_number_from_digit, is_number, Spells}
use Rattle.ctokens.specs.Lengths.{begins_with_digit, kind_at}
use Rattle.ctokens.specs.declared.token.TokenKind.{TokenKind}
use Rattle.ctokens.specs.declared.token.TokenKind.TheVariants.{Word, Number, Letter, Quoted, Mark}

-- a byte that a word begins with is no digit
word_is_no_digit : (byte : ℕ) → is_digit byte ≡ true → begins_word byte ≡ false
word_is_no_digit byte h =
    let (low, high) = both_true (nat_le 48 byte) (nat_le byte 57) h in
    let above : byte ≤ 57 = leb-true byte 57 high in
    let below : 48 ≤ byte = leb-true 48 byte low in
    false_or (is_nondigit byte) (nat_eq byte 36)
    (false_or (is_between 97 122 byte) _ (ap (λ b. b && nat_le byte 122) (lt-leb 97 byte (omega arith)))
    (false_or (is_between 65 90 byte) (nat_eq byte 95) (ap (λ b. b && nat_le byte 90) (lt-leb 65 byte (omega arith)))
    (ne_eqb byte 95 (λ e. omega (arith, e)))))
    (ne_eqb byte 36 (λ e. omega (arith, e)))

abbrev is_mark_kind : TokenKind → Bool
is_mark_kind Word = false
is_mark_kind Number = false
is_mark_kind Letter = false
is_mark_kind Quoted = false
is_mark_kind Mark = true

mark_from_test : (kind : TokenKind) → is_mark_kind kind ≡ true → Mark ≡ kind
mark_from_test Word h = absurd cc
mark_from_test Number h = absurd cc
mark_from_test Letter h = absurd cc
mark_from_test Quoted h = absurd cc
mark_from_test Mark h = refl

mark_kind : (bytes : List ℕ) → is_mark bytes ≡ true → is_mark_kind (kind_at bytes) ≡ true
unfolding kind_at
mark_kind [] h = absurd cc
mark_kind (first ∷ []) h = of_any (λ b. is_mark_kind (kind_at (b ∷ []))) single_marks first h refl
mark_kind (first ∷ (second ∷ [])) h = of_any_row (λ row. is_mark_kind (kind_at row)) double_marks (first ∷ (second ∷ [])) h refl
mark_kind (first ∷ (second ∷ (third ∷ []))) h = of_any_row (λ row. is_mark_kind (kind_at row)) triple_marks (first ∷ (second ∷ (third ∷ []))) h refl
mark_kind (first ∷ (second ∷ (third ∷ (fourth ∷ others)))) h = absurd cc

number_kind : (bytes : List ℕ) → is_number bytes ≡ true → Number ≡ kind_at bytes
unfolding kind_at
number_kind [] h = absurd cc
number_kind (first ∷ others) h =
    either_true (Number ≡ kind_at (first ∷ others)) (is_number_from_digit (first ∷ others)) _ h
    (λ digits.
    let (digit, more) = both_true (is_digit first) (are_continued first others) digits in
    sym (chosen_no (begins_word first) _ _ (word_is_no_digit first digit) ∙ chosen_yes (is_digit first) _ _ digit))
    (λ pointed.
    let (point, digits) = both_true (nat_eq first 46) (is_number_from_digit others) pointed in
    let is_point : first ≡ 46 = eqb-true first 46 point in
    rw is_point (behind_point others digits))
  where
    behind_point : (others : List ℕ) → is_number_from_digit others ≡ true → Number ≡ kind_at (46 ∷ others)
    behind_point [] digits = absurd cc
    behind_point (next ∷ more) digits =
        let (digit, _rest) = both_true (is_digit next) (are_continued next more) digits in
        sym (chosen_yes (is_digit next) Number Mark digit)

word_kind : (bytes : List ℕ) → Spells Word bytes → Word ≡ kind_at bytes
unfolding kind_at
word_kind [] h = absurd cc
word_kind (first ∷ others) h =
    let (begins, more) = both_true (begins_word first) (list_all is_word_byte others) h in sym (chosen_yes (begins_word first) _ _ begins)

quoted_kind : (bytes : List ℕ) → Spells Quoted bytes → Quoted ≡ kind_at bytes
unfolding kind_at
quoted_kind bytes (string, is, is_one) = rw is refl

letter_kind : (bytes : List ℕ) → Spells Letter bytes → Letter ≡ kind_at bytes
unfolding kind_at
letter_kind bytes (character, is, is_one) = rw is refl

-- a spelled token has the kind that its first bytes say
pub kind_of_spelled : (kind : TokenKind) (bytes : List ℕ) → Spells kind bytes → kind ≡ kind_at bytes
kind_of_spelled Word bytes h = word_kind bytes h
kind_of_spelled Number bytes h = number_kind bytes h
kind_of_spelled Letter bytes h = letter_kind bytes h
kind_of_spelled Quoted bytes h = quoted_kind bytes h
kind_of_spelled Mark bytes h = mark_from_test (kind_at bytes) (mark_kind bytes h)

-- a text that begins with `.` and a digit
abbrev pub is_pointed : List ℕ → Bool
is_pointed [] = false
is_pointed (first ∷ others) = nat_eq first 46 && begins_with_digit others

-- the first two bytes decide the kind, and without a `.` and a digit the first one does
pub kind_at-take : (text : List ℕ) (count : ℕ) → 0 < count → (1 < count) ⊎ (is_pointed text ≡ false) → kind_at (take count text) ≡ kind_at text
unfolding kind_at
kind_at-take text zero some apart = absurd (omega arith)
kind_at-take [] (suc count) some apart = refl
kind_at-take (first ∷ others) (suc count) some apart =
    ap (λ (b : Bool). if begins_word first then Word else (if is_digit first then Number else (if nat_eq first 39 then Letter else (if nat_eq first 34 then Quoted else (if b then Number else Mark)))))
    (same count others apart)
  where
    same : (count : ℕ) (others : List ℕ) → (1 < suc count) ⊎ (is_pointed (first ∷ others) ≡ false)
        → (nat_eq first 46 && begins_with_digit (take count others)) ≡ (nat_eq first 46 && begins_with_digit others)
    same zero others (inl two) = absurd (omega arith)
    same zero others (inr none) = false_and (nat_eq first 46) false refl ∙ sym none
    same (suc count) [] apart = refl
    same (suc count) (next ∷ others) apart = refl

above_is_clear : (byte : ℕ) → 35 < byte → (is_blank byte || nat_eq byte 35) ≡ false
above_is_clear byte above =
    false_or (is_blank byte) (nat_eq byte 35)
    (false_or (nat_eq byte 32) (is_between 9 13 byte) (ne_eqb byte 32 (λ e. omega (arith, e)))
    (false_and (nat_le 9 byte) (nat_le byte 13) (lt-leb byte 13 (omega arith))))
    (ne_eqb byte 35 (λ e. omega (arith, e)))

between_above : (low high byte : ℕ) → is_between low high byte ≡ true → low ≤ byte
between_above low high byte h = leb-true low byte (both_true (nat_le low byte) (nat_le byte high) h).0

word_above : (byte : ℕ) → begins_word byte ≡ true → 35 < byte
word_above byte h =
    either_true (35 < byte) (is_nondigit byte) (nat_eq byte 36) h
    (λ nondigit. either_true (35 < byte) (is_between 97 122 byte) _ nondigit
    (λ lower. omega (arith, between_above 97 122 byte lower))
    (λ later. either_true (35 < byte) (is_between 65 90 byte) (nat_eq byte 95) later
    (λ upper. omega (arith, between_above 65 90 byte upper))
    (λ line. omega (arith, eqb-true byte 95 line))))
    (λ dollar. omega (arith, eqb-true byte 36 dollar))

abbrev clear_first : List ℕ → Bool
clear_first [] = false
clear_first (first ∷ others) = not (is_blank first || nat_eq first 35)

false_from_not : (test : Bool) → not test ≡ true → test ≡ false
false_from_not true h = absurd cc
false_from_not false h = refl

mark_clear : (first : ℕ) (others : List ℕ) → is_mark (first ∷ others) ≡ true → clear_first (first ∷ others) ≡ true
mark_clear first [] h = of_any (λ b. clear_first (b ∷ [])) single_marks first h refl
mark_clear first (second ∷ []) h = of_any_row clear_first double_marks (first ∷ (second ∷ [])) h refl
mark_clear first (second ∷ (third ∷ [])) h = of_any_row clear_first triple_marks (first ∷ (second ∷ (third ∷ []))) h refl
mark_clear first (second ∷ (third ∷ (fourth ∷ others))) h = absurd cc

number_clear : (first : ℕ) (others : List ℕ) → is_number (first ∷ others) ≡ true → 35 < first
number_clear first others h =
    either_true (35 < first) (is_number_from_digit (first ∷ others)) _ h
    (λ digits. omega (arith, between_above 48 57 first (both_true (is_digit first) (are_continued first others) digits).0))
    (λ pointed. omega (arith, eqb-true first 46 (both_true (nat_eq first 46) (is_number_from_digit others) pointed).0))

-- no token begins with a blank or a `#`
pub spelled_is_clear : (kind : TokenKind) (first : ℕ) (others : List ℕ) → Spells kind (first ∷ others) → (is_blank first || nat_eq first 35) ≡ false
spelled_is_clear Word first others h = above_is_clear first (word_above first (both_true (begins_word first) _ h).0)
spelled_is_clear Number first others h = above_is_clear first (number_clear first others h)
spelled_is_clear Letter first others (character, is, is_one) = let same : first ≡ 39 = cc in rw same refl
spelled_is_clear Quoted first others (string, is, is_one) = let same : first ≡ 34 = cc in rw same refl
spelled_is_clear Mark first others h = false_from_not _ (mark_clear first others h)
