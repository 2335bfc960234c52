-- What one byte does behind what was read of a line.
use Rattle.std.specs.Prelude.{ℕ, ◌+◌, ◌*◌, ◌-◌, ◌^◌, ◌<◌, ◌==◌, Bool, List, length, codes, slice_index, nat_lt, if◌then◌else◌, Option, Some, is_some}
use Rattle.std.specs.Prelude.{None as Nothing}
use Rattle.cbase.specs.Bytes.{is_between, is_digit}
use Rattle.choices.specs.declared.word.Word.{Word}
use Rattle.choices.specs.declared.word.Word.TheVariants.{None, Input, Block}
use Rattle.choices.specs.declared.number.Number.{Number}
use Rattle.choices.specs.declared.number.Number.TheVariants.{Input as OfInput, Base}
use Rattle.choices.specs.declared.part.Part.{Part}
use Rattle.choices.specs.declared.part.Part.TheVariants.{Begin, InWord, First, Digits, Contents, Hyphen, Half, Whole}
use Rattle.choices.specs.declared.refusal.Refusal.{Refusal}
use Rattle.choices.specs.declared.refusal.Refusal.TheVariants as refusal
use Rattle.choices.specs.declared.part.Step.{Step}
use Rattle.choices.specs.declared.part.Step.TheVariants.{Refuse, Go, Byte, EndNone, EndInput, EndBlock}

-- a word with the byte that follows it
abbrev pub letters : Word → List ℕ
letters None = codes "none\n"
letters Input = codes "input "
letters Block = codes "block "

-- what is known of a part: a word is not read to its end, and a digit is one
abbrev pub IsPart : Part → Type 0
IsPart (InWord word read) = read < length (letters word)
IsPart (Half base high) = high < 16
IsPart Begin = Unit {0}
IsPart (First number) = Unit {0}
IsPart (Digits number value) = Unit {0}
IsPart (Contents base) = Unit {0}
IsPart (Hyphen base) = Unit {0}
IsPart (Whole base) = Unit {0}

-- the value of a decimal digit
abbrev pub digit_of : ℕ → Option ℕ
digit_of byte = if is_digit byte then Some (byte - 48) else Nothing

-- the number with one digit more
abbrev pub with_digit : ℕ → ℕ → Option ℕ
with_digit value digit =
    if value == 0 then Nothing else (if nat_lt (10 * value + digit) (2 ^ 64) then Some (10 * value + digit) else Nothing)

-- the byte behind a number
abbrev pub end_of : Number → ℕ
end_of OfInput = 10
end_of Base = 32

-- the value of a lower-case hexadecimal digit
abbrev pub hex_value : ℕ → Option ℕ
hex_value byte =
    if is_between 48 57 byte then Some (byte - 48) else (if is_between 97 102 byte then Some (byte - 97 + 10) else Nothing)

-- the first byte of a line: `n`, `i` or `b`
abbrev pub begun : ℕ → Step
begun byte =
    if byte == 110 then Go (InWord None 1) else (if byte == 105 then Go (InWord Input 1) else (if byte == 98 then Go (InWord Block 1) else Refuse))

-- what follows a word
abbrev pub word_read : Word → Step
word_read None = EndNone
word_read Input = Go (First OfInput)
word_read Block = Go (First Base)

-- a byte behind the first ones of a word
abbrev pub word_step : Word → ℕ → ℕ → Step
word_step word read byte =
    if slice_index (letters word) read == byte
    then (if nat_lt (read + 1) (length (letters word)) then Go (InWord word (read + 1)) else word_read word)
    else Refuse

-- the line goes on where there is a value
abbrev pub goes_on : (ℕ → Part) → Option ℕ → Step
goes_on part (Some value) = Go (part value)
goes_on part Nothing = Refuse

-- what follows a number
abbrev pub number_read : Number → ℕ → Step
number_read OfInput value = EndInput value
number_read Base value = Go (Contents value)

-- a byte behind the digits of a number
abbrev pub number_step : Number → ℕ → ℕ → Step
number_step number value byte =
    if is_digit byte then goes_on (Digits number) (with_digit value (byte - 48))
    else (if byte == end_of number then number_read number value else Refuse)

-- the first byte of contents: `-` (45) or a digit
abbrev pub contents_step : ℕ → ℕ → Step
contents_step base byte = if byte == 45 then Go (Hyphen base) else goes_on (Half base) (hex_value byte)

-- the second digit of a byte
abbrev pub low_of : ℕ → ℕ → Option ℕ → Step
low_of base high (Some low) = Byte base (16 * high + low)
low_of base high Nothing = Refuse

abbrev pub low_step : ℕ → ℕ → ℕ → Step
low_step base high byte = low_of base high (hex_value byte)

-- a byte behind whole bytes of contents
abbrev pub whole_step : ℕ → Bool → ℕ → Step
whole_step base full byte = if byte == 10 then EndBlock base else (if full then Refuse else goes_on (Half base) (hex_value byte))

-- a byte behind what was read of a line, where its contents are full or not
abbrev pub next : Part → Bool → ℕ → Step
next Begin full byte = begun byte
next (InWord word read) full byte = word_step word read byte
next (First number) full byte = goes_on (Digits number) (digit_of byte)
next (Digits number value) full byte = number_step number value byte
next (Contents base) full byte = contents_step base byte
next (Hyphen base) full byte = if byte == 10 then EndBlock base else Refuse
next (Half base high) full byte = low_step base high byte
next (Whole base) full byte = whole_step base full byte

-- why a byte is refused behind the digits of a number
abbrev pub digits_refusal : ℕ → ℕ → ℕ → Refusal
digits_refusal value byte at =
    if is_digit byte then (if value == 0 then refusal.LeadingZero at else refusal.TooGreat at) else refusal.Number at

-- why a byte is refused behind whole bytes of contents
abbrev pub whole_refusal : ℕ → ℕ → Refusal
whole_refusal byte at = if is_some (hex_value byte) then refusal.TooLong at else refusal.Contents at

-- why a byte is refused behind what was read of a line
abbrev pub refusal_at : Part → ℕ → ℕ → Refusal
refusal_at Begin byte at = refusal.Word at
refusal_at (InWord word read) byte at = refusal.Word at
refusal_at (First number) byte at = refusal.Number at
refusal_at (Digits number value) byte at = digits_refusal value byte at
refusal_at (Contents base) byte at = refusal.Contents at
refusal_at (Hyphen base) byte at = refusal.Contents at
refusal_at (Half base high) byte at = refusal.Contents at
refusal_at (Whole base) byte at = whole_refusal byte at
