-- Classes of bytes (C11 5.2.1, 6.4).
use Rattle.std.specs.Prelude.{ℕ, Bool, true, false, ◌||◌, not, List, [], ◌∷◌, nat_eq}
use Rattle.cbase.specs.Bytes.{is_between, is_digit}

-- a blank: a space, or a tab, newline, vertical tab, form feed or carriage return
abbrev pub is_blank : ℕ → Bool
is_blank byte = nat_eq byte 32 || is_between 9 13 byte

-- anything but a newline
abbrev pub is_inside_line : ℕ → Bool
is_inside_line byte = not (nat_eq byte 10)

-- `0` to `7`
abbrev pub is_octal_digit : ℕ → Bool
is_octal_digit byte = is_between 48 55 byte

-- `0` to `9`, `A` to `F` or `a` to `f`
abbrev pub is_hexadecimal_digit : ℕ → Bool
is_hexadecimal_digit byte = is_digit byte || (is_between 65 70 byte || is_between 97 102 byte)

-- a letter or `_` (C11 6.4.2.1)
abbrev pub is_nondigit : ℕ → Bool
is_nondigit byte = is_between 97 122 byte || (is_between 65 90 byte || nat_eq byte 95)

-- a letter, `_` or `$`: what a word begins with
abbrev pub begins_word : ℕ → Bool
begins_word byte = is_nondigit byte || nat_eq byte 36

-- a letter, a digit, `_` or `$`: what a word goes on with
abbrev pub is_word_byte : ℕ → Bool
is_word_byte byte = begins_word byte || is_digit byte

-- a letter, a digit, `_` or `.`: what a preprocessing number goes on with (C11 6.4.8)
abbrev pub is_number_byte : ℕ → Bool
is_number_byte byte = is_nondigit byte || (is_digit byte || nat_eq byte 46)

-- `e`, `E`, `p` or `P`: the letters behind which a preprocessing number may have a sign (C11 6.4.8)
abbrev pub is_exponent : ℕ → Bool
is_exponent byte = nat_eq byte 101 || (nat_eq byte 69 || (nat_eq byte 112 || nat_eq byte 80))

-- `+` or `-`
abbrev pub is_sign : ℕ → Bool
is_sign byte = nat_eq byte 43 || nat_eq byte 45

-- no bytes
abbrev pub is_empty : List ℕ → Bool
is_empty [] = true
is_empty (byte ∷ others) = false
