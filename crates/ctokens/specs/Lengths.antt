-- How many bytes of a text a token of each kind takes where it stands at the front, found byte by byte; 0
-- where none does.
use Rattle.std.specs.Prelude.{ℕ, ◌+◌, Bool, true, false, ◌&&◌, not, min, List, [], ◌∷◌, nat_eq, Option, None, Some, option_map, slice_index_or, if◌then◌else◌}
use Rattle.std.specs.Option.{unwrap_or}
use Rattle.std.specs.List.{prefix_len}
use Rattle.cbase.specs.Bytes.{is_digit}
use Rattle.ctokens.specs.Bytes.{begins_word, is_word_byte, is_octal_digit, is_hexadecimal_digit}
use Rattle.ctokens.specs.Marks.{is_mark}
use Rattle.ctokens.specs.Spelled.{continues, is_plain, is_simple_escape}
use Rattle.ctokens.specs.declared.closing.Closing.{Closing}
use Rattle.ctokens.specs.declared.closing.Closing.TheVariants.{Quote, Comment}
use Rattle.ctokens.specs.declared.closing.Move.{Move}
use Rattle.ctokens.specs.declared.closing.Move.TheVariants.{Goes, Closes, Breaks}
use Rattle.ctokens.specs.declared.token.TokenKind.{TokenKind}
use Rattle.ctokens.specs.declared.token.TokenKind.TheVariants.{Word, Number, Letter, Quoted, Mark}

-- how a byte goes on with a row up to a closing mark. In a string literal `kept` says that a `\` before it takes
-- it along, whatever it is. In a comment `kept` says that a `*` stands before it.
abbrev pub move : Closing → Bool → ℕ → Move
move Quote true byte = Goes false
move Quote false byte = if nat_eq byte 34 then Closes else (if nat_eq byte 10 then Breaks else Goes (nat_eq byte 92))
move Comment kept byte = if kept && nat_eq byte 47 then Closes else Goes (nat_eq byte 42)

-- what follows from a move, by its three cases
abbrev pub by_move : {A : Type 0} → Move → (Bool → A) → A → A → A
by_move (Goes kept) goes closes breaks = goes kept
by_move Closes goes closes breaks = closes
by_move Breaks goes closes breaks = breaks

-- how many bytes a row takes up to its closing mark, if it has one
abbrev pub closing_length : Closing → Bool → List ℕ → Option ℕ
closing_length closing kept [] = None
closing_length closing kept (byte ∷ others) =
    by_move (move closing kept byte) (λ more. option_map (λ n. 1 + n) (closing_length closing more others)) (Some 1) None

-- how many bytes go on with a number behind the byte `before`
abbrev pub continued_length : ℕ → List ℕ → ℕ
continued_length before [] = 0
continued_length before (byte ∷ others) = if continues before byte then 1 + continued_length byte others else 0

-- a word (C11 6.4.2)
unfoldable pub word_length : List ℕ → ℕ
word_length [] = 0
word_length (first ∷ others) = if begins_word first then 1 + prefix_len is_word_byte others else 0

-- a preprocessing number that begins with a digit
unfoldable pub digits_length : List ℕ → ℕ
digits_length [] = 0
digits_length (first ∷ others) = if is_digit first then 1 + continued_length first others else 0

-- a preprocessing number (C11 6.4.8)
unfoldable pub number_length : List ℕ → ℕ
number_length [] = 0
number_length (first ∷ others) =
    if nat_eq first 46
    then (if nat_eq (digits_length others) 0 then 0 else 1 + digits_length others)
    else digits_length (first ∷ others)

-- an escape behind its `\` (C11 6.4.4.4)
unfoldable pub escape_length : List ℕ → ℕ
escape_length [] = 0
escape_length (first ∷ others) =
    if is_simple_escape first then 1
    else (if is_octal_digit first then min 3 (prefix_len is_octal_digit (first ∷ others))
    else (if nat_eq first 120
    then (if nat_eq (prefix_len is_hexadecimal_digit others) 0 then 0 else 1 + prefix_len is_hexadecimal_digit others)
    else 0))

-- what a character constant has between its quotes
unfoldable pub character_length : List ℕ → ℕ
character_length [] = 0
character_length (first ∷ others) =
    if nat_eq first 92
    then (if nat_eq (escape_length others) 0 then 0 else 1 + escape_length others)
    else (if is_plain first then 1 else 0)

-- a character constant, its quotes with it (C11 6.4.4.4)
unfoldable pub letter_length : List ℕ → ℕ
letter_length [] = 0
letter_length (first ∷ others) =
    if nat_eq first 39 && (not (nat_eq (character_length others) 0) && nat_eq (slice_index_or others (character_length others) 0) 39)
    then 2 + character_length others
    else 0

-- a string literal, its quotes with it (C11 6.4.5)
unfoldable pub quoted_length : List ℕ → ℕ
quoted_length [] = 0
quoted_length (first ∷ others) =
    if nat_eq first 34 then unwrap_or (option_map (λ n. 1 + n) (closing_length Quote false others)) 0 else 0

-- a mark of one byte
unfoldable pub single_length : ℕ → ℕ
single_length first = if is_mark (first ∷ []) then 1 else 0

-- a mark of two bytes, or else one of the first byte alone
unfoldable pub double_length : ℕ → ℕ → ℕ
double_length first second = if is_mark (first ∷ (second ∷ [])) then 2 else single_length first

-- the longest mark (C11 6.4.6)
unfoldable pub mark_length : List ℕ → ℕ
mark_length [] = 0
mark_length (first ∷ []) = single_length first
mark_length (first ∷ (second ∷ [])) = double_length first second
mark_length (first ∷ (second ∷ (third ∷ others))) =
    if is_mark (first ∷ (second ∷ (third ∷ []))) then 3 else double_length first second

-- a token of the kind
abbrev pub token_length : TokenKind → List ℕ → ℕ
token_length Word text = word_length text
token_length Number text = number_length text
token_length Letter text = letter_length text
token_length Quoted text = quoted_length text
token_length Mark text = mark_length text

-- whether the text begins with a digit
abbrev pub begins_with_digit : List ℕ → Bool
begins_with_digit [] = false
begins_with_digit (first ∷ others) = is_digit first

-- the kind that a token at the front of the text can have
unfoldable pub kind_at : List ℕ → TokenKind
kind_at [] = Mark
kind_at (first ∷ others) =
    if begins_word first then Word
    else (if is_digit first then Number
    else (if nat_eq first 39 then Letter
    else (if nat_eq first 34 then Quoted
    else (if nat_eq first 46 && begins_with_digit others then Number else Mark))))
