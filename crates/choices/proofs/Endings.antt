-- What was read begins a text of choices.
use Rattle.std.proofs.Common.{◌≡◌, ℕ, ◌+◌, ◌*◌, ◌<◌, List, [], ◌∷◌, ◌++◌, take, drop, codes, refl, ap, sym, ◌∙◌, subst, append_assoc, arith}
use Rattle.std.specs.Fmt.{decimal}
use Rattle.std.proofs.lemmas.List.{take-append-drop}
use Rattle.std.proofs.lemmas.List.Elements.{All-nil, All-push}
use Rattle.choices.specs.declared.choice.Choice.{Choice}
use Rattle.choices.specs.declared.choice.Choice.TheVariants as choice
use Rattle.choices.specs.declared.word.Word.{Word}
use Rattle.choices.specs.declared.word.Word.TheVariants.{None, Input, Block}
use Rattle.choices.specs.declared.number.Number.TheVariants.{Input as OfInput, Base}
use Rattle.choices.specs.declared.part.Part.{Part}
use Rattle.choices.specs.declared.part.Part.TheVariants.{Begin, InWord, First, Digits, Contents, Hyphen, Half, Whole}
use Rattle.choices.specs.declared.reader.Reader.{Reader}
use Rattle.choices.specs.Format.{SpellsChoices, AreContents}
use Rattle.choices.specs.Written.{line_of, written, HasLine}
use Rattle.choices.specs.Reading.{letters}
use Rattle.choices.specs.Answers.{BeginsText}
use Rattle.choices.proofs.Parts.{part_text, IsFor, whole_ends, half_reads}
use Rattle.choices.proofs.Texts.{written_spells}
use Rattle.choices.proofs.Fronts.{front, IsState, written_push}

-- a front of what begins a text begins one
pub begins_before : (front more : List ℕ) → BeginsText (front ++ more) → BeginsText front
begins_before front more (rest, choices, s) = (more ++ rest, choices, subst (λ (w : List ℕ). SpellsChoices w choices) (append_assoc front more rest) s)

-- what is left of a line
pub record Ends (part : Part) (contents : List ℕ) : Type 0 where
  pub rest : List ℕ
  pub last : Choice
  pub has_line : HasLine last
  pub text : line_of last ≡ part_text part contents ++ rest

no_contents : AreContents []
no_contents = record { are_bytes = All-nil (λ byte. byte < 256); few = omega arith }

-- a word is read on to its end, and then a line behind it
word_ends : (word : Word) (read : ℕ) (contents more : List ℕ) (last : Choice) → HasLine last → line_of last ≡ letters word ++ more → Ends (InWord word read) contents
word_ends word read contents more last has is = record {
  rest = drop read (letters word) ++ more;
  last = last;
  has_line = has;
  text = is ∙ ap (λ (w : List ℕ). w ++ more) (sym (take-append-drop read (letters word))) ∙ append_assoc (take read (letters word)) (drop read (letters word)) more;
}

whole_line : (base : ℕ) (contents : List ℕ) → IsFor (Whole base) contents → Ends (Whole base) contents
whole_line base contents is = record { rest = codes "\n"; last = choice.Block base contents; has_line = (is.0, is.2); text = whole_ends base contents is.1 }

ends : (part : Part) (contents : List ℕ) → IsFor part contents → Ends part contents
ends Begin contents is = record { rest = line_of choice.None; last = choice.None; has_line = tt; text = refl }
ends (InWord None read) contents is = word_ends None read contents [] choice.None tt refl
ends (InWord Input read) contents is = word_ends Input read contents (decimal 0 ++ codes "\n") (choice.Input 0) (omega arith) refl
ends (InWord Block read) contents is = word_ends Block read contents (decimal 0 ++ codes " -\n") (choice.Block 0 []) (omega arith, no_contents) refl
ends (First OfInput) contents is = record { rest = decimal 0 ++ codes "\n"; last = choice.Input 0; has_line = omega arith; text = refl }
ends (First Base) contents is = record { rest = decimal 0 ++ codes " -\n"; last = choice.Block 0 []; has_line = (omega arith, no_contents); text = refl }
ends (Digits OfInput value) contents is = record { rest = codes "\n"; last = choice.Input value; has_line = is.0; text = refl }
ends (Digits Base value) contents is = record { rest = codes " -\n"; last = choice.Block value []; has_line = (is.0, no_contents); text = refl }
ends (Contents base) contents is = record { rest = codes "-\n"; last = choice.Block base []; has_line = (is.0, no_contents); text = simp append_assoc }
ends (Hyphen base) contents is = record { rest = codes "\n"; last = choice.Block base []; has_line = (is.0, no_contents); text = simp append_assoc }
ends (Half base high) contents is =
    let reads = half_reads base high 48 contents is in
    let whole = whole_line base (contents ++ (16 * high + 0) ∷ []) reads.0 in
    record {
      rest = 48 ∷ whole.rest;
      last = whole.last;
      has_line = whole.has_line;
      text = whole.text ∙ ap (λ (w : List ℕ). w ++ whole.rest) reads.1 ∙ append_assoc (part_text (Half base high) contents) (48 ∷ []) whole.rest;
    }
ends (Whole base) contents is = whole_line base contents is

-- what stands in a reader begins a text of choices
pub begins : (reader : Reader) → IsState reader → BeginsText (front reader)
begins reader is =
    let end = ends reader.part reader.contents is.part in (
      end.rest,
      reader.choices ++ end.last ∷ [],
      subst (λ (w : List ℕ). SpellsChoices w (reader.choices ++ end.last ∷ []))
          (written_push reader.choices end.last
          ∙ ap (λ (w : List ℕ). written reader.choices ++ w) end.text
          ∙ sym (append_assoc (written reader.choices) (part_text reader.part reader.contents) end.rest))
          (written_spells (reader.choices ++ end.last ∷ []) (All-push HasLine reader.choices end.last is.choices end.has_line)),
    )
