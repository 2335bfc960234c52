-- What the bytes of a token are (C11 6.4).
use Rattle.std.specs.Prelude.{◌≡◌, ℕ, Bool, true, false, ◌&&◌, ◌||◌, not, List, [], ◌∷◌, ◌++◌, length, nat_eq, nat_le, IsTrue, if◌then◌else◌, codes}
use Rattle.std.specs.List.{list_all, list_any}
use Rattle.cbase.specs.Bytes.{is_digit}
use Rattle.ctokens.specs.Bytes.{is_empty, begins_word, is_word_byte, is_octal_digit, is_hexadecimal_digit, is_number_byte, is_sign, is_exponent}
use Rattle.ctokens.specs.Marks.{is_mark}
use Rattle.ctokens.specs.declared.token.TokenKind.{TokenKind}
use Rattle.ctokens.specs.declared.token.TokenKind.TheVariants.{Word, Number, Letter, Quoted, Mark}

-- a word (C11 6.4.2.1): a letter, `_` or `$`, then letters, digits, `_` and `$`
abbrev pub is_word : List ℕ → Bool
is_word [] = false
is_word (first ∷ others) = begins_word first && list_all is_word_byte others

-- whether a preprocessing number goes on with a byte, behind the byte `before`
abbrev pub continues : ℕ → ℕ → Bool
continues before byte = is_number_byte byte || (is_sign byte && is_exponent before)

-- the bytes go on with a preprocessing number, behind the byte `before`
abbrev pub are_continued : ℕ → List ℕ → Bool
are_continued before [] = true
are_continued before (byte ∷ others) = continues before byte && are_continued byte others

-- a digit, and bytes that go on with the number
abbrev pub is_number_from_digit : List ℕ → Bool
is_number_from_digit [] = false
is_number_from_digit (first ∷ others) = is_digit first && are_continued first others

-- a preprocessing number (C11 6.4.8): a digit, perhaps behind a `.`, and bytes that go on with it
abbrev pub is_number : List ℕ → Bool
is_number [] = false
is_number (first ∷ others) = is_number_from_digit (first ∷ others) || (nat_eq first 46 && is_number_from_digit others)

-- a byte of a character constant that stands for itself: none of `'`, `\` and newline
abbrev pub is_plain : ℕ → Bool
is_plain byte = not (nat_eq byte 39 || (nat_eq byte 92 || nat_eq byte 10))

-- the letters and marks behind a `\` (C11 6.4.4.4): `' " ? \ a b f n r t v`
abbrev pub is_simple_escape : ℕ → Bool
is_simple_escape byte = list_any (nat_eq byte) (codes "'\"?\\abfnrtv")

-- one to three octal digits
abbrev pub are_octal : List ℕ → Bool
are_octal digits = not (is_empty digits) && (nat_le (length digits) 3 && list_all is_octal_digit digits)

-- hexadecimal digits
abbrev pub are_hexadecimal : List ℕ → Bool
are_hexadecimal digits = not (is_empty digits) && list_all is_hexadecimal_digit digits

-- an escape behind its `\` (C11 6.4.4.4)
abbrev pub is_escape : List ℕ → Bool
is_escape [] = false
is_escape (first ∷ others) =
    (is_simple_escape first && is_empty others) || (are_octal (first ∷ others) || (nat_eq first 120 && are_hexadecimal others))

-- what a character constant has between its quotes: one byte, or one escape
abbrev pub is_character : List ℕ → Bool
is_character [] = false
is_character (first ∷ others) = if nat_eq first 92 then is_escape others else (is_plain first && is_empty others)

-- a byte of a string literal that stands for itself: none of `"`, `\` and newline
abbrev pub is_plain_in_string : ℕ → Bool
is_plain_in_string byte = not (nat_eq byte 34 || (nat_eq byte 92 || nat_eq byte 10))

-- what a string literal has between its quotes (C11 6.4.5): bytes that stand for themselves, and `\` with any
-- byte behind it
abbrev pub is_string : List ℕ → Bool
is_string [] = true
is_string (first ∷ []) = is_plain_in_string first
is_string (first ∷ (second ∷ others)) =
    if nat_eq first 92 then is_string others else (is_plain_in_string first && is_string (second ∷ others))

-- the bytes are a token of the kind, as far as they alone say so
abbrev pub Spells : TokenKind → List ℕ → Type 0
Spells Word bytes = IsTrue (is_word bytes)
Spells Number bytes = IsTrue (is_number bytes)
Spells Letter bytes = (character : List ℕ) × (bytes ≡ 39 ∷ (character ++ 39 ∷ [])) × IsTrue (is_character character)
Spells Quoted bytes = (string : List ℕ) × (bytes ≡ 34 ∷ (string ++ 34 ∷ [])) × IsTrue (is_string string)
Spells Mark bytes = IsTrue (is_mark bytes)
