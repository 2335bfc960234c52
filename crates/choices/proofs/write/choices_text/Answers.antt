use Rattle.std.proofs.Common.{◌≡◌, ◌∙◌, List, [], ◌∷◌, ◌++◌, ◌+◌, ℕ, take, ap, sym, subst}
use Rattle.std.specs.List.{All}
use Rattle.std.proofs.lemmas.List.{take_all, take_more}
use Rattle.choices.specs.declared.choice.Choice.{Choice}
use Rattle.choices.specs.Format.{SpellsChoices}
use Rattle.choices.specs.Written.{HasLine, line_of, written}
use Rattle.std.proofs.lemmas.List.Elements.{All-push}
use Rattle.choices.proofs.Fronts.{written_push}
use Rattle.choices.proofs.Texts.{written_spells}
use Rattle.choices.proofs.write.choices_text.Goals as goal

pub loop-choice-preserved : goal.loop-choice-preserved
loop-choice-preserved c =
    let choices = c.args.choices.now in
    let before : List Choice = take c.loop-choice.choice-index choices in
    let last : Choice = c.choice-item.result in
    let grown : take (c.loop-choice.choice-index + 1) choices ≡ before ++ last ∷ [] =
    take_more choices c.loop-choice.choice-index last c.loop-choice-test.true ∙ ap (λ (x : Choice). before ++ x ∷ []) (sym c.choice-item.is) in
    record {
      text = c.in_ok-push_line.ensures.line ∙ ap (λ (w : List ℕ). w ++ line_of last) c.loop-choice.invariant.text ∙ sym (ap written grown ∙ written_push before last);
      lines = subst (λ (l : List Choice). All HasLine l) (sym grown) (All-push HasLine before last c.loop-choice.invariant.lines c.in_ok-push_line.ensures.has_line);
    }

pub returns-clause-spelled : goal.returns-clause-spelled
returns-clause-spelled c =
    let choices = c.args.choices.now in
    let whole : take c.loop-choice.choice-index choices ≡ choices = take_all c.loop-choice.choice-index choices c.loop-choice-test.false in
    let lines = subst (λ (l : List Choice). All HasLine l) whole c.loop-choice.invariant.lines in
    subst (λ (w : List ℕ). SpellsChoices w choices) (sym (c.loop-choice.invariant.text ∙ ap written whole)) (written_spells choices lines)
