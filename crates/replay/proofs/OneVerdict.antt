-- Of two files at most one verdict is true.
use Rattle.std.proofs.Common.{◌≡◌, ℕ, ◌≤◌, ◌⊎◌, Bool, true, false, IsTrue, inl, inr, Option, Some, Result, List, length, refl, ap, sym, ◌∙◌, subst, arith}
use Rattle.cbase.specs.declared.abi.Abi.{Abi}
use Rattle.choices.specs.declared.choice.Choice.{Choice}
use Rattle.choices.specs.Format.{SpellsChoices}
use Rattle.command_line.specs.declared.replay.ReplayCommand.{ReplayCommand}
use Rattle.ctokens.specs.InText.{most_bytes}
use Rattle.ctokens.specs.Items.{IsItems}
use Rattle.ctokens.specs.TokenList.{AreTokens, IsLexical}
use Rattle.ctokens.specs.declared.item_span.Deep.{Deep}
use Rattle.ctokens.specs.declared.item_span.ItemSpan.{ItemSpan}
use Rattle.ctokens.specs.declared.token.Lexical.{Lexical}
use Rattle.ctokens.specs.declared.token.Tokens.{Tokens}
use Rattle.items.specs.languages.CLanguage.{c_language, c_file}
use Rattle.ccheck.specs.declared.refusal.Refusal.{Refusal}
use Rattle.ccheck.specs.declared.refusal.Refusal.TheVariants as refusal
use Rattle.ccheck.specs.Checked.{IsRefused}
use Rattle.ccheck.specs.Walk.{HaveOneAnswer}
use Rattle.c_machine.specs.Program.{Program}
use Rattle.c_machine.specs.Run.{run_of}
use Rattle.c_machine.specs.Trees.{text_of}
use Rattle.report.specs.declared.answer.Why.TheVariants as why
use Rattle.report.specs.declared.replay_answer.ReplayAnswer.{ReplayAnswer}
use Rattle.report.specs.declared.replay_answer.ReplayAnswer.TheVariants.{Played, BadChoices, NotRead, Construct, TooLong, Usage, ReadFault, OutOfMemory}
use Rattle.verdicts.proofs.OneProgram.{one_program, one_refusal, pass_or_refused}
use Rattle.verdicts.proofs.OneVerdict.{Stage, AtLexical, AtDeep, AtNoMain, AtRead, AtLong, IsStage, one_stage}
use Rattle.replay.specs.Answered.{IsAnswered}
use Rattle.replay.proofs.Files.{judged_of, same_bytes}
use Rattle.replay.specs.Judged.{HasProgram, IsExact, IsVerdict, Judges}
use Rattle.replay.specs.Opened.{IsOfFileAlone, IsOpenedLast}
use Rattle.replay.specs.Program.{what_of}
use Rattle.verdicts.specs.Program.{IsProgram}
use Rattle.replay.specs.Told.{answer_of}

-- what is found of CHOICES
data Heard : Type 0 where
  Spelled : (choices : List Choice) → Heard
  NotSpelled : Heard
  TooMany : Heard

abbrev IsHeard : List ℕ → Heard → Type 0
IsHeard second (Spelled choices) = (length second ≤ most_bytes) × SpellsChoices second choices
IsHeard second NotSpelled = (length second ≤ most_bytes) × ((choices : List Choice) → SpellsChoices second choices → ⊥)
IsHeard second TooMany = 4194305 ≤ length second

-- what is answered then of a program
abbrev answer_to : Tokens → Program → ℕ → Heard → ReplayAnswer
answer_to t p steps (Spelled choices) = Played (what_of t (run_of (text_of p) choices steps))
answer_to t p steps NotSpelled = BadChoices
answer_to t p steps TooMany = TooLong 4194305 true

abbrev IsRefusedSo : ReplayCommand → Tokens → List ItemSpan → List ℕ → ReplayAnswer → Type 0
IsRefusedSo command t items numbers answer =
    (reason : Refusal) × IsRefused t items numbers command.model command.strict reason × (answer ≡ answer_of reason)

-- what is found of CHOICES and of the run is answered of a program
abbrev RunsSo : ReplayCommand → List ℕ → Tokens → Program → ReplayAnswer → Type 0
RunsSo command second t p answer = (heard : Heard) × IsHeard second heard × (answer ≡ answer_to t p command.steps heard)

abbrev PassesSo : ReplayCommand → List ℕ → Tokens → List ItemSpan → List ℕ → ReplayAnswer → Type 0
PassesSo command second t items numbers answer =
    (p : Program) × IsProgram t items numbers command.model command.strict p × RunsSo command second t p answer

-- what is answered at a stage of FILE
abbrev Fits : ReplayCommand → List ℕ → Stage → ReplayAnswer → Type 0
Fits command second (AtLexical place) answer = answer ≡ NotRead (why.Lexical place)
Fits command second (AtDeep place) answer = answer ≡ NotRead (why.Deep place)
Fits command second AtNoMain answer = answer ≡ NotRead why.NoMain
Fits command second (AtRead t items numbers) answer = IsRefusedSo command t items numbers answer ⊎ PassesSo command second t items numbers answer
Fits command second AtLong answer = answer ≡ TooLong 4194305 false

-- each answer that says something of the files is given at some stage
stage_of : (command : ReplayCommand) (bytes second : List ℕ) (answer : ReplayAnswer) → IsVerdict answer → Judges command bytes second answer
    → (stage : Stage) × IsStage command.file bytes stage × Fits command second stage answer
stage_of command bytes second (Played what) verdict (short, (t, p, choices, holds, spells, is)) = (
  AtRead t holds.items holds.numbers,
  (holds.is_short, holds.is_read),
  inr (p, holds.is_program, (Spelled choices, (short, spells), ap Played (sym is))),
)
stage_of command bytes second BadChoices verdict (short, (t, p, holds), none) =
    (AtRead t holds.items holds.numbers, (holds.is_short, holds.is_read), inr (p, holds.is_program, (NotSpelled, (short, none), refl)))
stage_of command bytes second (NotRead (why.Lexical place)) verdict judged = (AtLexical place, judged, refl)
stage_of command bytes second (NotRead (why.Deep place)) verdict judged = (AtDeep place, judged, refl)
stage_of command bytes second (NotRead why.NoMain) verdict judged = (AtNoMain, judged, refl)
stage_of command bytes second (NotRead (why.Syntax place)) verdict (short, (t, items, numbers, read, first)) =
    (AtRead t items numbers, (short, read), inl (refusal.Syntax place, first, refl))
stage_of command bytes second (NotRead (why.Rule number place)) verdict (short, (t, items, numbers, read, first)) =
    (AtRead t items numbers, (short, read), inl (refusal.Rule number place, first, refl))
stage_of command bytes second (Construct number place) verdict (short, (t, items, numbers, read, first)) =
    (AtRead t items numbers, (short, read), inl (refusal.Construct number place, first, refl))
stage_of command bytes second (TooLong taken false) verdict (is, inside) = (AtLong, omega (arith, is, inside), ap (λ (n : ℕ). TooLong n false) is)
stage_of command bytes second (TooLong taken true) verdict (is, inside, (t, p, holds)) = (
  AtRead t holds.items holds.numbers,
  (holds.is_short, holds.is_read),
  inr (p, holds.is_program, (TooMany, omega (arith, is, inside), ap (λ (n : ℕ). TooLong n true) is)),
)
stage_of command bytes second Usage verdict judged = absurd verdict
stage_of command bytes second ReadFault verdict judged = absurd verdict
stage_of command bytes second OutOfMemory verdict judged = absurd verdict

-- an answer about FILE alone says something of the files
alone_verdict : (answer : ReplayAnswer) → IsOfFileAlone answer → IsVerdict answer
alone_verdict (Played what) alone = absurd alone
alone_verdict BadChoices alone = absurd alone
alone_verdict (NotRead reason) alone = tt
alone_verdict (Construct number place) alone = tt
alone_verdict (TooLong taken second) alone = tt
alone_verdict Usage alone = absurd alone
alone_verdict ReadFault alone = absurd alone
alone_verdict OutOfMemory alone = absurd alone

-- none is given where runs can be made
run_alone : (t : Tokens) (p : Program) (steps : ℕ) (heard : Heard) → IsOfFileAlone (answer_to t p steps heard) → ⊥
run_alone t p steps (Spelled choices) alone = alone
run_alone t p steps NotSpelled alone = alone
run_alone t p steps TooMany alone = alone

module _ (one_list : (file text : List ℕ) (tokens others : Tokens) → AreTokens file text tokens → AreTokens file text others → tokens ≡ others)
    (one_place : (file text : List ℕ) (lexical other : Lexical) → IsLexical file text lexical → IsLexical file text other → lexical ≡ other)
    (never_both : (file text : List ℕ) (tokens : Tokens) (lexical : Lexical) → AreTokens file text tokens → IsLexical file text lexical → ⊥)
    (one_items : (t : Tokens) (answer other : Result (List ItemSpan) Deep) → IsItems t answer → IsItems t other → answer ≡ other)
    (one_answer : (abi : Abi) → HaveOneAnswer (c_language abi) (c_file abi))
    (one_choices : (text : List ℕ) (a b : List Choice) → SpellsChoices text a → SpellsChoices text b → a ≡ b)
    (command : ReplayCommand) (bytes second : List ℕ) where
  -- of CHOICES one thing is found
  one_heard : (heard other : Heard) → IsHeard second heard → IsHeard second other → heard ≡ other
  one_heard (Spelled choices) (Spelled others) (short, is) (low, also) = ap Spelled (one_choices second choices others is also)
  one_heard (Spelled choices) NotSpelled (short, is) (low, none) = absurd (none choices is)
  one_heard (Spelled choices) TooMany (short, is) long = absurd (omega (arith, short, long))
  one_heard NotSpelled (Spelled choices) (short, none) (low, is) = absurd (none choices is)
  one_heard NotSpelled NotSpelled none also = refl
  one_heard NotSpelled TooMany (short, none) long = absurd (omega (arith, short, long))
  one_heard TooMany (Spelled choices) long (short, is) = absurd (omega (arith, short, long))
  one_heard TooMany NotSpelled long (short, none) = absurd (omega (arith, short, long))
  one_heard TooMany TooMany long also = refl

  -- and of a program
  one_way : (t : Tokens) (p : Program) (answer other : ReplayAnswer) → RunsSo command second t p answer → RunsSo command second t p other → answer ≡ other
  one_way t p answer other (heard, hears, is) (heard2, hears2, is2) =
      is ∙ (ap (answer_to t p command.steps) (one_heard heard heard2 hears hears2) ∙ sym is2)

  one_fit : (stage : Stage) (answer other : ReplayAnswer) → Fits command second stage answer → Fits command second stage other → answer ≡ other
  one_fit (AtLexical place) answer other is also = is ∙ sym also
  one_fit (AtDeep place) answer other is also = is ∙ sym also
  one_fit AtNoMain answer other is also = is ∙ sym also
  one_fit AtLong answer other is also = is ∙ sym also
  one_fit (AtRead t items numbers) answer other (inl (reason, by, is)) (inl (reason2, also, is2)) =
      is ∙ (ap answer_of (one_refusal one_answer t items numbers command.model command.strict reason reason2 by also) ∙ sym is2)
  one_fit (AtRead t items numbers) answer other (inl (reason, by, is)) (inr (p, passes, ways)) = absurd (pass_or_refused one_answer t items numbers command.model command.strict reason p passes by)
  one_fit (AtRead t items numbers) answer other (inr (p, passes, ways)) (inl (reason, by, is2)) = absurd (pass_or_refused one_answer t items numbers command.model command.strict reason p passes by)
  one_fit (AtRead t items numbers) answer other (inr (p, passes, ways)) (inr (q, passes2, ways2)) =
      one_way t q answer other
      (subst (λ (x : Program). RunsSo command second t x answer) (one_program one_answer t items numbers command.model command.strict p q passes passes2) ways) ways2

  one_verdict : (answer other : ReplayAnswer) → IsVerdict answer → IsVerdict other → Judges command bytes second answer → Judges command bytes second other
      → answer ≡ other
  one_verdict answer other verdict verdict2 judged also =
      let (stage, is, fits) = stage_of command bytes second answer verdict judged in
      let (stage2, is2, fits2) = stage_of command bytes second other verdict2 also in
      let same : stage ≡ stage2 = one_stage one_list one_place never_both one_items one_answer command.file bytes stage stage2 is is2 in
      one_fit stage2 answer other (subst (λ (s : Stage). Fits command second s answer) same fits) fits2

  -- where FILE holds a program, no answer about FILE alone is true
  way_alone : (t : Tokens) (p : Program) (answer : ReplayAnswer) → RunsSo command second t p answer → IsOfFileAlone answer → ⊥
  way_alone t p answer (heard, hears, is) alone = run_alone t p command.steps heard (subst IsOfFileAlone is alone)

  fit_alone : (t : Tokens) (items : List ItemSpan) (numbers : List ℕ) (p : Program) (answer : ReplayAnswer)
      → IsProgram t items numbers command.model command.strict p → Fits command second (AtRead t items numbers) answer → IsOfFileAlone answer → ⊥
  fit_alone t items numbers p answer passes (inl (reason, by, is)) alone = pass_or_refused one_answer t items numbers command.model command.strict reason p passes by
  fit_alone t items numbers p answer passes (inr (q, passes2, ways)) alone = way_alone t q answer ways alone

  never_alone : (answer : ReplayAnswer) → HasProgram command bytes → IsOfFileAlone answer → Judges command bytes second answer → ⊥
  never_alone answer (t, p, holds) alone judged =
      let (stage, is, fits) = stage_of command bytes second answer (alone_verdict answer alone) judged in
      let same : stage ≡ AtRead t holds.items holds.numbers =
      one_stage one_list one_place never_both one_items one_answer command.file bytes stage (AtRead t holds.items holds.numbers) is
      (holds.is_short, holds.is_read) in
      fit_alone t holds.items holds.numbers p answer holds.is_program (subst (λ (s : Stage). Fits command second s answer) same fits) alone

  fault_at : (tells : Bool) (content : Option (List ℕ)) (name : List ℕ) (other : ReplayAnswer) → IsTrue tells → content ≡ Some bytes → IsOfFileAlone other
      → Judges command bytes second other → IsOpenedLast tells content command name ReadFault → name ≡ command.file
  fault_at tells content name other told one alone judged (inl is) = is
  fault_at tells content name other told one alone judged (inr (is, (front, are, holds))) =
      absurd (never_alone other (subst (HasProgram command) (same_bytes front bytes (sym (are told) ∙ one)) holds) alone judged)

  -- so a fault is one of FILE
  pub fault_of_file : (tells : Bool) (content : Option (List ℕ)) (name : List ℕ) (answer other : ReplayAnswer) → IsTrue tells → content ≡ Some bytes
      → IsOfFileAlone other → Judges command bytes second other → answer ≡ ReadFault → IsOpenedLast tells content command name answer → name ≡ command.file
  fault_of_file tells content name answer other told one alone judged fault opened =
      fault_at tells content name other told one alone judged (subst (IsOpenedLast tells content command name) fault opened)

  pub exact_verdict : (answer : ReplayAnswer) → IsVerdict answer → Judges command bytes second answer → IsExact command bytes second answer
  exact_verdict answer verdict judged = record {
    only = λ other verdict2.
        (λ same. subst (Judges command bytes second) same judged, λ also. one_verdict answer other verdict verdict2 judged also);
  }

  -- what is answered of files whose contents are told is exactly true of them
  pub exactly_one : (tells : Bool) (content other : Option (List ℕ)) (names : List (List ℕ)) (answer : ReplayAnswer) → IsTrue tells → content ≡ Some bytes
      → other ≡ Some second → IsVerdict answer → IsAnswered tells content other command names answer → IsExact command bytes second answer
  exactly_one tells content other names answer told one two verdict answered =
      exact_verdict answer verdict (judged_of tells content other command bytes second names answer told one two verdict answered)
