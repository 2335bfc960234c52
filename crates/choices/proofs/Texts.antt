-- A list of choices has one text, which is the one that is written.
use Rattle.std.proofs.Common.{◌≡◌, ℕ, List, [], ◌∷◌, ◌++◌, codes, refl, ap, sym, ◌∙◌, subst, append_assoc}
use Rattle.std.specs.List.{All}
use Rattle.std.specs.Fmt.{decimal}
use Rattle.std.proofs.lemmas.List.Elements.{All-head, All-tail, All-nil, All-cons}
use Rattle.choices.specs.declared.choice.Choice.{Choice}
use Rattle.choices.specs.declared.choice.Choice.TheVariants.{None, Block, Input}
use Rattle.choices.specs.Format.{SpellsChoice, NoneLine, InputLine, BlockLine, SpellsChoices, NoLines, MoreLines, contents_text}
use Rattle.choices.specs.Written.{line_of, written, HasFewBytes, HasLine}
use Rattle.choices.proofs.Numbers.{decimal_spells, spells_decimal}

-- a line with its newline is the one that is written
line_written : (line : List ℕ) (choice : Choice) → SpellsChoice line choice → (line ++ codes "\n" ≡ line_of choice) × HasLine choice
line_written _ _ NoneLine = (refl, tt)
line_written _ _ (InputLine word number s) =
    (ap (λ (w : List ℕ). codes "input " ++ (w ++ codes "\n")) (spells_decimal word number s), s.fits)
line_written _ _ (BlockLine word base bytes s are) = (
  ap (λ (w : List ℕ). codes "block " ++ w) (append_assoc word (codes " " ++ contents_text bytes) (codes "\n"))
      ∙ ap (λ (w : List ℕ). codes "block " ++ (w ++ (codes " " ++ (contents_text bytes ++ codes "\n")))) (spells_decimal word base s),
  (s.fits, are),
)

pub spelled_written : (text : List ℕ) (choices : List Choice) → SpellsChoices text choices → (text ≡ written choices) × All HasLine choices
spelled_written _ _ NoLines = (refl, All-nil HasLine)
spelled_written _ _ (MoreLines line text choice choices s more) =
    let first = line_written line choice s in
    let rest = spelled_written text choices more in (
      sym (append_assoc line (codes "\n") text)
          ∙ ap (λ (w : List ℕ). w ++ text) first.0
          ∙ ap (λ (w : List ℕ). line_of choice ++ w) rest.0,
      All-cons HasLine choice choices first.1 rest.1,
    )

-- what is written of a choice is its line with a newline
pub written_line : (choice : Choice) → HasLine choice → (line : List ℕ) × SpellsChoice line choice × (line ++ codes "\n" ≡ line_of choice)
written_line None has = (codes "none", NoneLine, refl)
written_line (Input number) has = (codes "input " ++ decimal number, InputLine (decimal number) number (decimal_spells number has), refl)
written_line (Block base bytes) has = (
  codes "block " ++ (decimal base ++ (codes " " ++ contents_text bytes)),
  BlockLine (decimal base) base bytes (decimal_spells base has.0) has.1,
  ap (λ (w : List ℕ). codes "block " ++ w) (append_assoc (decimal base) (codes " " ++ contents_text bytes) (codes "\n")),
)

pub written_spells : (choices : List Choice) → All HasLine choices → SpellsChoices (written choices) choices
written_spells [] all = NoLines
written_spells (choice ∷ choices) all =
    let first = written_line choice (All-head HasLine choice choices all) in
    let rest = written_spells choices (All-tail HasLine choice choices all) in
    subst (λ (w : List ℕ). SpellsChoices w (choice ∷ choices))
    (sym (append_assoc first.0 (codes "\n") (written choices)) ∙ ap (λ (w : List ℕ). w ++ written choices) first.2)
    (MoreLines first.0 (written choices) choice choices first.1 rest)

few_bytes : (choice : Choice) → HasLine choice → HasFewBytes choice
few_bytes None has = tt
few_bytes (Input number) has = tt
few_bytes (Block base bytes) has = has.1.few

all_few : (choices : List Choice) → All HasLine choices → All HasFewBytes choices
all_few [] all = All-nil HasFewBytes
all_few (choice ∷ choices) all =
    All-cons HasFewBytes choice choices (few_bytes choice (All-head HasLine choice choices all)) (all_few choices (All-tail HasLine choice choices all))

pub spelled_few : (text : List ℕ) (choices : List Choice) → SpellsChoices text choices → All HasFewBytes choices
spelled_few text choices s = all_few choices (spelled_written text choices s).1
