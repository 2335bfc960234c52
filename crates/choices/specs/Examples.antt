-- Worked examples: texts of choices, and texts that are none with the byte at which this shows.
use Rattle.std.specs.Prelude.{ℕ, ◌-◌, ◌^◌, List, [], ◌∷◌, replicate, codes}
use Rattle.choices.specs.declared.choice.Choice.{Choice}
use Rattle.choices.specs.declared.choice.Choice.TheVariants.{None, Block, Input}
use Rattle.choices.specs.declared.refusal.Refusal.{Refusal}
use Rattle.choices.specs.declared.refusal.Refusal.TheVariants as refusal
use Rattle.choices.specs.declared.refusal.ReadChoices.TheVariants.{Choices, Refused}
use Rattle.choices.specs.Answers.{IsAnswer}

-- a text is read as these choices
abbrev pub IsRead : List ℕ → List Choice → Type 0
IsRead text choices = IsAnswer text (Choices choices)

-- a text is refused for this
abbrev pub IsRefused : List ℕ → Refusal → Type 0
IsRefused text why = IsAnswer text (Refused why)

-- texts of choices
pub record AreTexts : Type 0 where
  -- without a line there is no choice
  pub empty : IsRead [] []
  pub two_blocks : IsRead (codes "block 16 0000000000000000\nblock 32 0000000000000000\n")
      (Block 16 (replicate 8 0) ∷ (Block 32 (replicate 8 0) ∷ []))
  pub block_and_none : IsRead (codes "block 16 0000000000000000\nnone\n") (Block 16 (replicate 8 0) ∷ (None ∷ []))
  -- a base at which no block may lie is read: the run ends at it
  pub odd_base : IsRead (codes "block 24 -\n") (Block 24 [] ∷ [])
  -- the high digit of a byte stands first
  pub digits : IsRead (codes "block 0 09aff0\n") (Block 0 (9 ∷ (175 ∷ (240 ∷ []))) ∷ [])
  pub zero : IsRead (codes "input 0\n") (Input 0 ∷ [])
  pub greatest : IsRead (codes "input 18446744073709551615\n") (Input (2 ^ 64 - 1) ∷ [])
  pub greatest_base : IsRead (codes "block 18446744073709551615 00\n") (Block (2 ^ 64 - 1) (0 ∷ []) ∷ [])

-- texts that end too early
pub record AreCutShort : Type 0 where
  pub no_newline : IsRefused (codes "none") (refusal.CutShort 4)
  pub within_a_word : IsRefused (codes "none\nbl") (refusal.CutShort 7)
  pub behind_a_word : IsRefused (codes "input ") (refusal.CutShort 6)
  pub behind_a_number : IsRefused (codes "input 1") (refusal.CutShort 7)
  pub behind_a_base : IsRefused (codes "block 16") (refusal.CutShort 8)
  pub within_a_byte : IsRefused (codes "block 16 0") (refusal.CutShort 10)
  pub behind_contents : IsRefused (codes "block 16 00") (refusal.CutShort 11)

-- lines that do not begin with `none`, `input ` or `block `
pub record AreNoWords : Type 0 where
  pub empty_line : IsRefused (codes "\n") (refusal.Word 0)
  pub empty_line_at_the_end : IsRefused (codes "none\n\n") (refusal.Word 5)
  pub capital : IsRefused (codes "None\n") (refusal.Word 0)
  pub blank_before : IsRefused (codes " none\n") (refusal.Word 0)
  pub blank_behind : IsRefused (codes "none \n") (refusal.Word 4)
  pub carriage_return : IsRefused (codes "none\r\n") (refusal.Word 4)
  pub tabulator : IsRefused (codes "input\t1\n") (refusal.Word 5)
  pub no_number : IsRefused (codes "input\n") (refusal.Word 5)

-- numbers that are none
pub record AreNoNumbers : Type 0 where
  pub plus : IsRefused (codes "input +1\n") (refusal.Number 6)
  pub minus : IsRefused (codes "input -1\n") (refusal.Number 6)
  pub no_digit : IsRefused (codes "input \n") (refusal.Number 6)
  pub two_blanks : IsRefused (codes "input  1\n") (refusal.Number 6)
  pub letter : IsRefused (codes "block x\n") (refusal.Number 6)
  pub prefix : IsRefused (codes "input 0x10\n") (refusal.Number 7)
  pub blank_behind : IsRefused (codes "input 1 \n") (refusal.Number 7)
  pub carriage_return : IsRefused (codes "input 1\r\n") (refusal.Number 7)
  pub base_alone : IsRefused (codes "block 16\n") (refusal.Number 8)
  pub leading_zero : IsRefused (codes "input 01\n") (refusal.LeadingZero 7)
  pub two_zeros : IsRefused (codes "input 00\n") (refusal.LeadingZero 7)
  pub leading_zero_of_a_base : IsRefused (codes "block 016 -\n") (refusal.LeadingZero 7)
  pub too_great : IsRefused (codes "input 18446744073709551616\n") (refusal.TooGreat 25)
  pub a_digit_more : IsRefused (codes "input 100000000000000000000\n") (refusal.TooGreat 26)
  pub too_great_a_base : IsRefused (codes "block 18446744073709551616 -\n") (refusal.TooGreat 25)

-- contents that are none
pub record AreNoContents : Type 0 where
  pub left_out : IsRefused (codes "block 16 \n") (refusal.Contents 9)
  pub half_a_byte : IsRefused (codes "block 16 0\n") (refusal.Contents 10)
  pub half_a_byte_more : IsRefused (codes "block 16 000\n") (refusal.Contents 12)
  pub capital : IsRefused (codes "block 16 0A\n") (refusal.Contents 10)
  pub letter_g : IsRefused (codes "block 16 g0\n") (refusal.Contents 9)
  pub hyphen_and_a_byte : IsRefused (codes "block 16 -00\n") (refusal.Contents 10)
  pub byte_and_a_hyphen : IsRefused (codes "block 16 00-\n") (refusal.Contents 11)
  pub blank_between : IsRefused (codes "block 16 00 00\n") (refusal.Contents 11)
  pub carriage_return : IsRefused (codes "block 16 -\r\n") (refusal.Contents 10)
  pub in_a_later_line : IsRefused (codes "none\ninput 7\nblock 16 zz\n") (refusal.Contents 22)
