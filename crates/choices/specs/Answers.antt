-- What is read from a text: the choices that it spells, or why it spells none.
use Rattle.std.specs.Prelude.{◌≡◌, ℕ, ◌+◌, ◌^◌, ◌<◌, ◌≤◌, Bool, true, false, ◌||◌, List, [], ◌∷◌, ◌++◌, length, take, slice_index, count_by, ◌==◌, if◌then◌else◌, codes}
use Rattle.cbase.specs.Bytes.{is_between, is_digit, decimal_value}
use Rattle.choices.specs.declared.choice.Choice.{Choice}
use Rattle.choices.specs.declared.refusal.Refusal.{Refusal}
use Rattle.choices.specs.declared.refusal.Refusal.TheVariants.{CutShort, Word, Number, LeadingZero, TooGreat, Contents, TooLong}
use Rattle.choices.specs.declared.refusal.ReadChoices.{ReadChoices}
use Rattle.choices.specs.declared.refusal.ReadChoices.TheVariants.{Choices, Refused}
use Rattle.std.specs.List.{All}
use Rattle.choices.specs.Format.{SpellsChoices}
use Rattle.choices.specs.Written.{HasFewBytes}

-- some text of choices begins with these bytes
abbrev pub BeginsText : List ℕ → Type 0
BeginsText front = (rest : List ℕ) × (choices : List Choice) × SpellsChoices (front ++ rest) choices

-- the text begins a text of choices, and is none
pub record IsCutShort (text : List ℕ) : Type 0 where
  pub begins : BeginsText text
  pub spells_none : (choices : List Choice) → ¬ SpellsChoices text choices

-- what stands before this byte begins a text of choices, and with the byte it begins none
pub record IsRefusedAt (text : List ℕ) (at : ℕ) : Type 0 where
  pub within : at < length text
  pub begins : BeginsText (take at text)
  pub goes_on_with_none : ¬ BeginsText (take (at + 1) text)

-- what stands behind the last byte of this value
abbrev pub behind_last : ℕ → List ℕ → List ℕ
behind_last value [] = []
behind_last value (byte ∷ rest) =
    if count_by (λ other. other == value) (byte ∷ rest) == 0 then byte ∷ rest else behind_last value rest

-- what stands before a byte on its line
abbrev pub line_before : List ℕ → ℕ → List ℕ
line_before text at = behind_last 10 (take at text)

-- which part of its line a byte belongs to: 0 its word, 1 its number, 2 its contents
abbrev pub part_number : List ℕ → ℕ → ℕ
part_number text at = count_by (λ byte. byte == 32) (line_before text at)

-- what stands before a byte in its part of the line
abbrev pub part_before : List ℕ → ℕ → List ℕ
part_before text at = behind_last 32 (line_before text at)

-- `0` (48) to `9`, `a` (97) to `f`
abbrev pub is_hexadecimal : ℕ → Bool
is_hexadecimal byte = is_digit byte || is_between 97 102 byte

-- a byte is refused in a part of its line
pub record IsRefusedIn (part : ℕ) (text : List ℕ) (at : ℕ) : Type 0 where
  pub refused : IsRefusedAt text at
  pub in_part : part_number text at ≡ part

-- a digit stands behind contents that may have no more of them: two digits for each of 65,536 bytes
pub record IsTooLong (text : List ℕ) (at : ℕ) : Type 0 where
  pub digit : is_hexadecimal (slice_index text at) ≡ true
  pub full : 131072 ≤ length (part_before text at)

-- a text is refused for this
abbrev pub IsRefusal : List ℕ → Refusal → Type 0
IsRefusal text (CutShort at) = IsCutShort text × (at ≡ length text)
IsRefusal text (Word at) = IsRefusedIn 0 text at
IsRefusal text (Number at) = IsRefusedIn 1 text at × (is_digit (slice_index text at) ≡ false)
IsRefusal text (LeadingZero at) = IsRefusedIn 1 text at × (is_digit (slice_index text at) ≡ true) × (part_before text at ≡ codes "0")
IsRefusal text (TooGreat at) =
    IsRefusedIn 1 text at × (is_digit (slice_index text at) ≡ true) × (2 ^ 64 ≤ decimal_value 0 (part_before text at ++ slice_index text at ∷ []))
IsRefusal text (Contents at) = IsRefusedIn 2 text at × ¬ IsTooLong text at
IsRefusal text (TooLong at) = IsRefusedIn 2 text at × IsTooLong text at

-- what is read from a text
abbrev pub IsAnswer : List ℕ → ReadChoices → Type 0
IsAnswer text (Choices choices) = SpellsChoices text choices
IsAnswer text (Refused refusal) = IsRefusal text refusal

-- what was read may be written: its contents have at most 65,536 bytes
abbrev pub MayBeWritten : ReadChoices → Type 0
MayBeWritten (Choices choices) = All HasFewBytes choices
MayBeWritten (Refused refusal) = Unit {0}
