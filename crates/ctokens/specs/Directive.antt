-- Directive lines (C11 6.10.4 and 6.10.6, and what GCC writes into a preprocessed text). A line is given
-- without its newline, from its `#` on.
use Rattle.std.specs.Prelude.{◌≡◌, ℕ, ◌≤◌, Bool, true, false, ◌&&◌, ◌||◌, ◌⊎◌, not, List, [], ◌∷◌, ◌++◌, drop, nat_eq, IsTrue, codes, if◌then◌else◌}
use Rattle.std.specs.Bool.{IsFalse}
use Rattle.std.specs.List.{list_all, prefix_len, starts_with}
use Rattle.cbase.specs.Bytes.{is_digit, decimal_value}
use Rattle.ctokens.specs.Bytes.{is_empty, is_blank, is_word_byte}

-- what stands behind the blanks at the front of a text
abbrev pub unblanked : List ℕ → List ℕ
unblanked text = drop (prefix_len is_blank text) text

-- the text begins with a blank
abbrev pub begins_with_blank : List ℕ → Bool
begins_with_blank [] = false
begins_with_blank (byte ∷ others) = is_blank byte

-- nothing goes on with a word here
abbrev pub ends_word : List ℕ → Bool
ends_word [] = true
ends_word (byte ∷ others) = not (is_word_byte byte)

-- `#pragma` by the letter
abbrev pub is_pragma : List ℕ → Bool
is_pragma line = starts_with nat_eq line (codes "#pragma")

-- behind `#pragma` stand blanks and the word `pack`
abbrev pub is_pack : List ℕ → Bool
is_pack line =
    is_pragma line && (begins_with_blank (drop 7 line)
    && (starts_with nat_eq (unblanked (drop 7 line)) (codes "pack") && ends_word (drop 4 (unblanked (drop 7 line)))))

-- `#ident` by the letter, or a `#pragma` other than `#pragma pack`
abbrev pub is_passed_over : List ℕ → Bool
is_passed_over line = not (is_pack line) && (is_pragma line || starts_with nat_eq line (codes "#ident"))

-- the greatest number that a marker may give to a line (C11 6.10.4)
abbrev pub greatest_line : ℕ
greatest_line = 2147483647

-- how a name is written between quotes: `\\` and `\"` stand for `\` and `"`, any other byte for itself
abbrev pub written : List ℕ → List ℕ
written [] = []
written (byte ∷ name) = if nat_eq byte 34 || nat_eq byte 92 then 92 ∷ (byte ∷ written name) else byte ∷ written name

-- what stands before the number: `#` and perhaps blanks, or `#line` and blanks
abbrev pub IsOpening : List ℕ → Type 0
IsOpening opening =
    (blanks : List ℕ) × IsTrue (list_all is_blank blanks)
    × ((opening ≡ codes "#" ++ blanks) ⊎ ((opening ≡ codes "#line" ++ blanks) × IsFalse (is_empty blanks)))

-- decimal digits with this value, which is not above the greatest number of a line
pub record AreDigits (digits : List ℕ) (number : ℕ) : Type 0 where
  pub some : IsFalse (is_empty digits)
  pub decimal : IsTrue (list_all is_digit digits)
  pub value : decimal_value 0 digits ≡ number
  pub in_range : number ≤ greatest_line

-- a byte that may stand behind the name of a marker: a digit or a blank
abbrev pub is_flag_byte : ℕ → Bool
is_flag_byte byte = is_digit byte || is_blank byte

-- a line marker: the line that follows has this number in the file with this name. Behind the name there may
-- be decimal numbers, which say nothing here.
pub record IsMarker (line : List ℕ) (number : ℕ) (name : List ℕ) : Type 0 where
  pub opening : List ℕ
  pub digits : List ℕ
  pub gap : List ℕ
  pub flags : List ℕ
  pub whole : line ≡ opening ++ (digits ++ (gap ++ (34 ∷ (written name ++ (34 ∷ flags)))))
  pub opens : IsOpening opening
  pub numbers : AreDigits digits number
  pub are_blank : IsTrue (list_all is_blank gap)
  pub are_flags : IsTrue (list_all is_flag_byte flags)
