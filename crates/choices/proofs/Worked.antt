-- The worked examples: each text is run byte by byte.
use Rattle.std.proofs.Common.{[], ◌∷◌, codes, refl, lit<}
use Rattle.choices.specs.declared.choice.Choice.TheVariants as choice
use Rattle.choices.specs.declared.word.Word.TheVariants as word
use Rattle.choices.specs.declared.number.Number.TheVariants as number
use Rattle.choices.specs.declared.part.Part.TheVariants as part
use Rattle.choices.specs.Examples.{AreTexts, AreCutShort, AreNoWords, AreNoNumbers, AreNoContents}
use Rattle.choices.proofs.Complete.{reading}
use Rattle.choices.proofs.Refusals.{cut_short, refused, read_whole}

pub examples_of_texts : AreTexts
examples_of_texts = record {
  empty = read_whole [] (reading ([]) (part.Begin) ([])) refl refl;
  two_blocks = read_whole (codes "block 16 0000000000000000\nblock 32 0000000000000000\n") (reading ((choice.Block 16 (0 ∷ (0 ∷ (0 ∷ (0 ∷ (0 ∷ (0 ∷ (0 ∷ (0 ∷ []))))))))) ∷ ((choice.Block 32 (0 ∷ (0 ∷ (0 ∷ (0 ∷ (0 ∷ (0 ∷ (0 ∷ (0 ∷ []))))))))) ∷ [])) (part.Begin) ([])) refl refl;
  block_and_none = read_whole (codes "block 16 0000000000000000\nnone\n") (reading ((choice.Block 16 (0 ∷ (0 ∷ (0 ∷ (0 ∷ (0 ∷ (0 ∷ (0 ∷ (0 ∷ []))))))))) ∷ (choice.None ∷ [])) (part.Begin) ([])) refl refl;
  odd_base = read_whole (codes "block 24 -\n") (reading ((choice.Block 24 ([])) ∷ []) (part.Begin) ([])) refl refl;
  digits = read_whole (codes "block 0 09aff0\n") (reading ((choice.Block 0 (9 ∷ (175 ∷ (240 ∷ [])))) ∷ []) (part.Begin) ([])) refl refl;
  zero = read_whole (codes "input 0\n") (reading ((choice.Input 0) ∷ []) (part.Begin) ([])) refl refl;
  greatest = read_whole (codes "input 18446744073709551615\n") (reading ((choice.Input 18446744073709551615) ∷ []) (part.Begin) ([])) refl refl;
  greatest_base = read_whole (codes "block 18446744073709551615 00\n") (reading ((choice.Block 18446744073709551615 (0 ∷ [])) ∷ []) (part.Begin) ([])) refl refl;
}

pub examples_of_cut : AreCutShort
examples_of_cut = record {
  no_newline = (cut_short (codes "none") (reading ([]) (part.InWord word.None 4) ([])) refl (λ begin. absurd (cc)), refl);
  within_a_word = (cut_short (codes "none\nbl") (reading (choice.None ∷ []) (part.InWord word.Block 2) ([])) refl (λ begin. absurd (cc)), refl);
  behind_a_word = (cut_short (codes "input ") (reading ([]) (part.First number.Input) ([])) refl (λ begin. absurd (cc)), refl);
  behind_a_number = (cut_short (codes "input 1") (reading ([]) (part.Digits number.Input 1) ([])) refl (λ begin. absurd (cc)), refl);
  behind_a_base = (cut_short (codes "block 16") (reading ([]) (part.Digits number.Base 16) ([])) refl (λ begin. absurd (cc)), refl);
  within_a_byte = (cut_short (codes "block 16 0") (reading ([]) (part.Half 16 0) ([])) refl (λ begin. absurd (cc)), refl);
  behind_contents = (cut_short (codes "block 16 00") (reading ([]) (part.Whole 16) (0 ∷ [])) refl (λ begin. absurd (cc)), refl);
}

pub examples_of_words : AreNoWords
examples_of_words = record {
  empty_line = refused (codes "\n") 0 (reading ([]) (part.Begin) ([])) refl (lit< tt) refl;
  empty_line_at_the_end = refused (codes "none\n\n") 5 (reading (choice.None ∷ []) (part.Begin) ([])) refl (lit< tt) refl;
  capital = refused (codes "None\n") 0 (reading ([]) (part.Begin) ([])) refl (lit< tt) refl;
  blank_before = refused (codes " none\n") 0 (reading ([]) (part.Begin) ([])) refl (lit< tt) refl;
  blank_behind = refused (codes "none \n") 4 (reading ([]) (part.InWord word.None 4) ([])) refl (lit< tt) refl;
  carriage_return = refused (codes "none\r\n") 4 (reading ([]) (part.InWord word.None 4) ([])) refl (lit< tt) refl;
  tabulator = refused (codes "input\t1\n") 5 (reading ([]) (part.InWord word.Input 5) ([])) refl (lit< tt) refl;
  no_number = refused (codes "input\n") 5 (reading ([]) (part.InWord word.Input 5) ([])) refl (lit< tt) refl;
}

pub examples_of_numbers : AreNoNumbers
examples_of_numbers = record {
  plus = refused (codes "input +1\n") 6 (reading ([]) (part.First number.Input) ([])) refl (lit< tt) refl;
  minus = refused (codes "input -1\n") 6 (reading ([]) (part.First number.Input) ([])) refl (lit< tt) refl;
  no_digit = refused (codes "input \n") 6 (reading ([]) (part.First number.Input) ([])) refl (lit< tt) refl;
  two_blanks = refused (codes "input  1\n") 6 (reading ([]) (part.First number.Input) ([])) refl (lit< tt) refl;
  letter = refused (codes "block x\n") 6 (reading ([]) (part.First number.Base) ([])) refl (lit< tt) refl;
  prefix = refused (codes "input 0x10\n") 7 (reading ([]) (part.Digits number.Input 0) ([])) refl (lit< tt) refl;
  blank_behind = refused (codes "input 1 \n") 7 (reading ([]) (part.Digits number.Input 1) ([])) refl (lit< tt) refl;
  carriage_return = refused (codes "input 1\r\n") 7 (reading ([]) (part.Digits number.Input 1) ([])) refl (lit< tt) refl;
  base_alone = refused (codes "block 16\n") 8 (reading ([]) (part.Digits number.Base 16) ([])) refl (lit< tt) refl;
  leading_zero = refused (codes "input 01\n") 7 (reading ([]) (part.Digits number.Input 0) ([])) refl (lit< tt) refl;
  two_zeros = refused (codes "input 00\n") 7 (reading ([]) (part.Digits number.Input 0) ([])) refl (lit< tt) refl;
  leading_zero_of_a_base = refused (codes "block 016 -\n") 7 (reading ([]) (part.Digits number.Base 0) ([])) refl (lit< tt) refl;
  too_great = refused (codes "input 18446744073709551616\n") 25 (reading ([]) (part.Digits number.Input 1844674407370955161) ([])) refl (lit< tt) refl;
  a_digit_more = refused (codes "input 100000000000000000000\n") 26 (reading ([]) (part.Digits number.Input 10000000000000000000) ([])) refl (lit< tt) refl;
  too_great_a_base = refused (codes "block 18446744073709551616 -\n") 25 (reading ([]) (part.Digits number.Base 1844674407370955161) ([])) refl (lit< tt) refl;
}

pub examples_of_contents : AreNoContents
examples_of_contents = record {
  left_out = refused (codes "block 16 \n") 9 (reading ([]) (part.Contents 16) ([])) refl (lit< tt) refl;
  half_a_byte = refused (codes "block 16 0\n") 10 (reading ([]) (part.Half 16 0) ([])) refl (lit< tt) refl;
  half_a_byte_more = refused (codes "block 16 000\n") 12 (reading ([]) (part.Half 16 0) (0 ∷ [])) refl (lit< tt) refl;
  capital = refused (codes "block 16 0A\n") 10 (reading ([]) (part.Half 16 0) ([])) refl (lit< tt) refl;
  letter_g = refused (codes "block 16 g0\n") 9 (reading ([]) (part.Contents 16) ([])) refl (lit< tt) refl;
  hyphen_and_a_byte = refused (codes "block 16 -00\n") 10 (reading ([]) (part.Hyphen 16) ([])) refl (lit< tt) refl;
  byte_and_a_hyphen = refused (codes "block 16 00-\n") 11 (reading ([]) (part.Whole 16) (0 ∷ [])) refl (lit< tt) refl;
  blank_between = refused (codes "block 16 00 00\n") 11 (reading ([]) (part.Whole 16) (0 ∷ [])) refl (lit< tt) refl;
  carriage_return = refused (codes "block 16 -\r\n") 10 (reading ([]) (part.Hyphen 16) ([])) refl (lit< tt) refl;
  in_a_later_line = refused (codes "none\ninput 7\nblock 16 zz\n") 22 (reading (choice.None ∷ ((choice.Input 7) ∷ [])) (part.Contents 16) ([])) refl (lit< tt) refl;
}
