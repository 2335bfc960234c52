-- Laws of texts of choices.
use Rattle.std.proofs.Common.{◌≡◌, ◌↔◌, ℕ, ◌^◌, ◌<◌, List, ◌∷◌, ◌++◌, codes, sym, subst, append_assoc}
use Rattle.std.specs.List.{All}
use Rattle.std.specs.Fmt.{decimal}
use Rattle.choices.specs.declared.choice.Choice.{Choice}
use Rattle.choices.specs.declared.refusal.ReadChoices.{ReadChoices}
use Rattle.choices.specs.declared.refusal.ReadChoices.TheVariants.{Choices}
use Rattle.choices.specs.Format.{SpellsNumber, SpellsChoices, NoLines, MoreLines}
use Rattle.choices.specs.Written.{HasLine, written}
use Rattle.choices.specs.Answers.{IsAnswer}
use Rattle.choices.proofs.Numbers.{decimal_spells, spells_decimal}
use Rattle.choices.proofs.Texts.{spelled_written, written_spells}
use Rattle.choices.proofs.OneAnswer.{one_answer}

pub written_is_read : (choices : List Choice) (answer : ReadChoices) → All HasLine choices → IsAnswer (written choices) answer ↔ (answer ≡ Choices choices)
written_is_read choices answer all = (
  λ is. one_answer (written choices) answer (Choices choices) is (written_spells choices all),
  λ same. subst (λ (a : ReadChoices). IsAnswer (written choices) a) (sym same) (written_spells choices all),
)

pub text_of_a_list : (text : List ℕ) (choices : List Choice) → SpellsChoices text choices ↔ ((text ≡ written choices) × All HasLine choices)
text_of_a_list text choices = (
  spelled_written text choices,
  λ both. subst (λ (w : List ℕ). SpellsChoices w choices) (sym both.0) (written_spells choices both.1),
)

pub joined : (text more : List ℕ) (a b : List Choice) → SpellsChoices text a → SpellsChoices more b → SpellsChoices (text ++ more) (a ++ b)
joined _ more _ b NoLines second = second
joined _ more _ b (MoreLines line text choice choices s rest) second =
    subst (λ (w : List ℕ). SpellsChoices w (choice ∷ (choices ++ b)))
    (sym (append_assoc line (codes "\n" ++ text) more))
    (MoreLines line (text ++ more) choice (choices ++ b) s (joined text more choices b rest second))

pub word_of_a_number : (word : List ℕ) (number : ℕ) → SpellsNumber word number ↔ ((word ≡ decimal number) × (number < 2 ^ 64))
word_of_a_number word number = (
  λ s. (spells_decimal word number s, s.fits),
  λ both. subst (λ (w : List ℕ). SpellsNumber w number) (sym both.0) (decimal_spells number both.1),
)
