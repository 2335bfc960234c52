use Rattle.std.proofs.Common.{◌≡◌, ◌∙◌, List, ℕ, ap, sym, subst, take, get_or, length, refl}
use Rattle.std.proofs.lemmas.List.{take_all}
use Rattle.choices.specs.Answers.{IsRefusal}
use Rattle.choices.specs.declared.refusal.Refusal.{Refusal}
use Rattle.choices.specs.Run.{Goes, Stops, run, step, start, turn_of}
use Rattle.choices.proofs.Refusals.{part_reached, refused, one_more, read_whole, cut_short}
use Rattle.choices.specs.declared.refusal.Refusal.TheVariants.{CutShort}
use Rattle.choices.specs.declared.refusal.ReadChoices.TheVariants.{Choices, Refused}
use Rattle.choices.proofs.OneAnswer.{one_answer}
use Rattle.choices.proofs.Texts.{spelled_few}
use Rattle.choices.proofs.read.read_choices.Goals as goal

pub take-requires : goal.take-requires
take-requires c = part_reached (take c.loop-at.at c.args.text.now) c.loop-at.reader c.loop-at.invariant

pub returns-then-not-branch-clause-answer : goal.returns-then-not-branch-clause-answer
returns-then-not-branch-clause-answer c =
    let text = c.args.text.now in
    let stops : step c.loop-at.reader (get_or text c.loop-at.at 0) ≡ Stops =
    sym c.in_ok-take.ensures ∙ ap (λ b. turn_of b c.take.new.reader) c.if-not-branch.true in
    subst (λ (r : Refusal). IsRefusal text r) (sym c.refusal.ensures) (refused text c.loop-at.at c.loop-at.reader c.loop-at.invariant c.loop-at-test.true stops)

pub loop-at-preserved : goal.loop-at-preserved
loop-at-preserved c =
    let text = c.args.text.now in
    let goes : step c.loop-at.reader (get_or text c.loop-at.at 0) ≡ Goes c.take.new.reader =
    sym c.in_ok-take.ensures ∙ ap (λ b. turn_of b c.take.new.reader) c.if-not-branch.false in
    one_more text c.loop-at.at c.loop-at.reader c.take.new.reader c.loop-at.invariant c.loop-at-test.true goes

pub returns-in-Begin-clause-answer : goal.returns-in-Begin-clause-answer
returns-in-Begin-clause-answer c =
    let text = c.args.text.now in
    let whole = ap (λ (w : List ℕ). run start w) (sym (take_all c.loop-at.at text c.loop-at-test.false)) in
    read_whole text c.loop-at.reader (whole ∙ c.loop-at.invariant) c.in-Begin.is

pub returns-clause-answer : goal.returns-clause-answer
returns-clause-answer c =
    let text = c.args.text.now in
    let whole = ap (λ (w : List ℕ). run start w) (sym (take_all c.loop-at.at text c.loop-at-test.false)) in
    (cut_short text c.loop-at.reader (whole ∙ c.loop-at.invariant) c.in_default.not-Begin, refl)

pub returns-then-not-branch-clause-exactly : goal.returns-then-not-branch-clause-exactly
returns-then-not-branch-clause-exactly c = λ other is. one_answer c.args.text.now other (Refused c.refusal.result) is (returns-then-not-branch-clause-answer c)

pub returns-in-Begin-clause-exactly : goal.returns-in-Begin-clause-exactly
returns-in-Begin-clause-exactly c = λ other is. one_answer c.args.text.now other (Choices c.loop-at.reader.choices) is (returns-in-Begin-clause-answer c)

pub returns-clause-exactly : goal.returns-clause-exactly
returns-clause-exactly c = λ other is. one_answer c.args.text.now other (Refused (CutShort (length c.args.text.now))) is (returns-clause-answer c)

pub returns-in-Begin-clause-few : goal.returns-in-Begin-clause-few
returns-in-Begin-clause-few c = spelled_few c.args.text.now c.loop-at.reader.choices (returns-in-Begin-clause-answer c)
