-- The classes of bytes of which a text has rows.
use Rattle.std.specs.Prelude.{ℕ, Bool}
use Rattle.cbase.specs.Bytes.{is_digit}
use Rattle.ctokens.specs.Bytes.{is_blank, is_word_byte, is_octal_digit, is_hexadecimal_digit, is_inside_line}
use Rattle.ctokens.specs.declared.byte.Class.{Class}
use Rattle.ctokens.specs.declared.byte.Class.TheVariants.{Blank, Digit, Octal, Hexadecimal, Word, Line}

-- whether a byte is of the class
abbrev pub is_of : Class → ℕ → Bool
is_of Blank byte = is_blank byte
is_of Digit byte = is_digit byte
is_of Octal byte = is_octal_digit byte
is_of Hexadecimal byte = is_hexadecimal_digit byte
is_of Word byte = is_word_byte byte
is_of Line byte = is_inside_line byte
