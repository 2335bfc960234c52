-- The text of choices: a line for each choice, in order, and each line ends with a newline.
--
--   none
--   input V
--   block BASE CONTENTS
use Rattle.std.specs.Prelude.{◌≡◌, ℕ, ◌/◌, ◌%◌, ◌^◌, ◌<◌, ◌≤◌, true, false, List, [], ◌∷◌, ◌++◌, length, slice_index, codes}
use Rattle.std.specs.List.{All, flat_map, list_all}
use Rattle.std.specs.Fmt.{digit_glyph}
use Rattle.cbase.specs.Bytes.{is_digit, decimal_value}
use Rattle.choices.specs.declared.choice.Choice.{Choice}
use Rattle.choices.specs.declared.choice.Choice.TheVariants.{None, Block, Input}

-- V and BASE: a number of 64 bits in decimal digits, without leading zeros (48 is `0`)
pub record SpellsNumber (word : List ℕ) (number : ℕ) : Type 0 where
  pub digits : list_all is_digit word ≡ true
  pub some : 0 < length word
  pub no_leading_zero : slice_index word 0 ≡ 48 → length word ≡ 1
  pub value : decimal_value 0 word ≡ number
  pub fits : number < 2 ^ 64

-- two lower-case hexadecimal digits for a byte
abbrev pub two_digits : ℕ → List ℕ
two_digits byte = digit_glyph false (byte / 16) ∷ digit_glyph false (byte % 16) ∷ []

-- two digits for each byte, and `-` where there is none
abbrev pub contents_text : List ℕ → List ℕ
contents_text [] = codes "-"
contents_text (byte ∷ bytes) = flat_map two_digits (byte ∷ bytes)

-- the contents of a block: at most 65,536 bytes
pub record AreContents (bytes : List ℕ) : Type 0 where
  pub are_bytes : All (λ byte. byte < 256) bytes
  pub few : length bytes ≤ 65536

-- a line spells a choice, its newline left out
pub data SpellsChoice : List ℕ → Choice → Type 0 where
  NoneLine : SpellsChoice (codes "none") None
  InputLine : (word : List ℕ) (number : ℕ) → SpellsNumber word number → SpellsChoice (codes "input " ++ word) (Input number)
  BlockLine : (word : List ℕ) (base : ℕ) (bytes : List ℕ) → SpellsNumber word base → AreContents bytes
      → SpellsChoice (codes "block " ++ (word ++ (codes " " ++ contents_text bytes))) (Block base bytes)

-- a text spells a list of choices
pub data SpellsChoices : List ℕ → List Choice → Type 0 where
  NoLines : SpellsChoices [] []
  MoreLines : (line text : List ℕ) (choice : Choice) (choices : List Choice) → SpellsChoice line choice → SpellsChoices text choices
      → SpellsChoices (line ++ (codes "\n" ++ text)) (choice ∷ choices)
