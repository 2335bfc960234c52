-- Which of the two files were opened, and which one last.
use Rattle.std.proofs.Common.{◌≡◌, ℕ, inl, inr, true, false, Bool, IsTrue, IfOk, OnErr, Result, Ok, Err, Option, Some, List, ap, subst, sym, ◌∙◌}
use Rattle.cbase.specs.declared.tree.item.Item.{Item}
use Rattle.command_line.specs.declared.replay.ReplayCommand.{ReplayCommand}
use Rattle.ctokens.specs.declared.token.Tokens.{Tokens}
use Rattle.expressions.specs.Context.{Context}
use Rattle.outside.specs.Opened.{Openings, opened}
use Rattle.outside.specs.Reading.{Reads}
use Rattle.outside.specs.declared.reading.Reading.{Reading}
use Rattle.outside.specs.declared.reading.Reading.TheVariants.{Whole}
use Rattle.report.specs.declared.replay_answer.ReplayShown.{ReplayShown}
use Rattle.report.specs.declared.replay_answer.ReplayAnswer.{ReplayAnswer}
use Rattle.report.specs.declared.replay_answer.ReplayAnswer.TheVariants.{Played, BadChoices, NotRead, Construct, TooLong, Usage, ReadFault, OutOfMemory}
use Rattle.replay.specs.declared.top.Plan.{Plan}
use Rattle.replay.specs.declared.judging.Answered.{Answered}
use Rattle.replay.specs.Answered.{AreBytesOf}
use Rattle.replay.specs.Opened.{AreBothOpened, AreOpened, IsOpenedLast}
use Rattle.replay.specs.Told.{HoldsProgramOf, IsAboutBoth, IsAboutFile}
use Rattle.replay.proofs.Told.{has_program}

module _ (tells : Bool) (content : Option (List ℕ)) (command : ReplayCommand) (name : List ℕ) where
  -- FILE was, and the answer is about it alone
  pub file_opened : (answer : ReplayAnswer) → name ≡ command.file → IsAboutFile answer → IsOpenedLast tells content command name answer
  file_opened (Played what) is about = absurd about
  file_opened BadChoices is about = absurd about
  file_opened (NotRead reason) is about = is
  file_opened (Construct number place) is about = is
  file_opened (TooLong taken second) is about = absurd about
  file_opened Usage is about = absurd about
  file_opened ReadFault is about = absurd about
  file_opened OutOfMemory is about = absurd about

  -- CHOICES was, and the answer is about both
  pub choices_opened : (answer : ReplayAnswer) → name ≡ command.choices → IsAboutBoth answer → IsOpenedLast tells content command name answer
  choices_opened (Played what) is about = is
  choices_opened BadChoices is about = is
  choices_opened (NotRead reason) is about = absurd about
  choices_opened (Construct number place) is about = absurd about
  choices_opened (TooLong taken second) is about = absurd about
  choices_opened Usage is about = absurd about
  choices_opened ReadFault is about = absurd about
  choices_opened OutOfMemory is about = absurd about

  -- CHOICES was, and cannot be read
  pub fault_opened : (t : Tokens) (items : List Item) (text : Context) (strict : Bool) → name ≡ command.choices → AreBytesOf tells content t.text
      → HoldsProgramOf command t items text strict → IsOpenedLast tells content command name ReadFault
  fault_opened t items text strict is are held = inr (is, (t.text, are, has_program command t items text strict held))

  -- what is said of an answer is said of it with its report
  pub plan_opened : {E : Type 0} (result : Result Plan E) (shown : ReplayShown) → IsOpenedLast tells content command name shown.answer
      → IfOk result (λ plan. plan.shown ≡ shown) → IfOk result (λ plan. IsOpenedLast tells content command name plan.shown.answer)
  plan_opened (Ok plan) shown opened is = subst (λ (s : ReplayShown). IsOpenedLast tells content command name s.answer) (sym is) opened
  plan_opened (Err error) shown opened is = tt

-- FILE was read to its end before CHOICES was opened, which kept the contents
pub whole_opened : {E : Type 0} (command : ReplayCommand) (result : Result Answered E) (last : List ℕ) (tells later : Bool) (bytes_of : List ℕ → Option (List ℕ))
    (name file left text : List ℕ) (reading : Reading) → name ≡ file → reading ≡ Whole text → (IsTrue tells → Reads (bytes_of name) left reading) → later ≡ tells
    → ((whole : Option (List ℕ)) → AreBytesOf later whole text → IfOk result (λ a. IsOpenedLast later whole command last a.answer))
    → IfOk result (λ a. IsOpenedLast tells (bytes_of file) command last a.answer)
whole_opened command result last tells later bytes_of name file left text reading named is reads same opened =
    subst (λ (told : Bool). ((whole : Option (List ℕ)) → AreBytesOf told whole text → IfOk result (λ a. IsOpenedLast told whole command last a.answer))) same opened
    (bytes_of file) (λ told. subst (λ (x : List ℕ). bytes_of x ≡ Some text) named (subst (Reads (bytes_of name) left) is (reads told)).0)

-- what was opened between these two counts
module _ (tells : Bool) (content : Option (List ℕ)) (command : ReplayCommand) (before after : Openings) where
  -- FILE was, and the answer is about it alone
  pub file_alone : (answer : ReplayAnswer) → after ≡ opened before command.file → IsAboutFile answer → AreOpened tells content command before after answer
  file_alone (Played what) is about = absurd about
  file_alone BadChoices is about = absurd about
  file_alone (NotRead reason) is about = is
  file_alone (Construct number place) is about = is
  file_alone (TooLong taken second) is about = absurd about
  file_alone Usage is about = absurd about
  file_alone ReadFault is about = absurd about
  file_alone OutOfMemory is about = absurd about

  -- both were, and the answer is about both
  pub both_opened : (answer : ReplayAnswer) → AreBothOpened tells content command before after → IsAboutBoth answer → AreOpened tells content command before after answer
  both_opened (Played what) are about = are
  both_opened BadChoices are about = are
  both_opened (NotRead reason) are about = absurd about
  both_opened (Construct number place) are about = absurd about
  both_opened (TooLong taken second) are about = absurd about
  both_opened Usage are about = absurd about
  both_opened ReadFault are about = absurd about
  both_opened OutOfMemory are about = absurd about

  -- CHOICES was opened behind FILE, which holds a program
  pub opened_behind : (first : Openings) (t : Tokens) (items : List Item) (text : Context) (strict : Bool) → first ≡ opened before command.file
      → after ≡ opened first command.choices → AreBytesOf tells content t.text → HoldsProgramOf command t items text strict
      → AreBothOpened tells content command before after
  opened_behind first t items text strict one two are held =
      (two ∙ ap (λ (o : Openings). opened o command.choices) one, (t.text, are, has_program command t items text strict held))

  -- no more is opened for any answer than where memory is wanting
  at_most_opened : (answer : ReplayAnswer) → AreOpened tells content command before after answer → AreOpened tells content command before after OutOfMemory
  at_most_opened (Played what) are = inr (inr are)
  at_most_opened BadChoices are = inr (inr are)
  at_most_opened (NotRead reason) are = inr (inl are)
  at_most_opened (Construct number place) are = inr (inl are)
  at_most_opened (TooLong taken false) are = inr (inl are)
  at_most_opened (TooLong taken true) are = inr (inr are)
  at_most_opened Usage are = inl are
  at_most_opened ReadFault are = inr are
  at_most_opened OutOfMemory are = are

  -- what is said of an answer is said of it with its report, and where there is no memory for that
  pub plan_all_opened : {E : Type 0} (result : Result Plan E) (shown : ReplayShown) → AreOpened tells content command before after shown.answer
      → IfOk result (λ plan. plan.shown ≡ shown) → IfOk result (λ plan. AreOpened tells content command before after plan.shown.answer)
  plan_all_opened (Ok plan) shown are is = subst (λ (s : ReplayShown). AreOpened tells content command before after s.answer) (sym is) are
  plan_all_opened (Err error) shown are is = tt

  pub plan_wanting : {E : Type 0} (result : Result Plan E) (answer : ReplayAnswer) → AreOpened tells content command before after answer
      → OnErr result (AreOpened tells content command before after OutOfMemory)
  plan_wanting (Ok plan) answer are = tt
  plan_wanting (Err error) answer are = at_most_opened answer are

-- FILE was opened first, and read to its end, before CHOICES was opened
module _ {E : Type 0} (command : ReplayCommand) (result : Result Answered E) (tells later : Bool) (content : Option (List ℕ)) (before first after : Openings) (text : List ℕ)
    (same : later ≡ tells) (one : first ≡ opened before command.file) (are : AreBytesOf tells content text) where
  read_then : AreBytesOf later content text
  read_then = λ told. are (subst IsTrue same told)

  pub whole_all_opened : ((start : Openings) (whole : Option (List ℕ)) → first ≡ opened start command.file → AreBytesOf later whole text
      → IfOk result (λ a. AreOpened later whole command start after a.answer)) → IfOk result (λ a. AreOpened tells content command before after a.answer)
  whole_all_opened answered =
      subst (λ (told : Bool). IfOk result (λ a. AreOpened told content command before after a.answer)) same (answered before content one read_then)

  pub whole_wanting : ((start : Openings) (whole : Option (List ℕ)) → first ≡ opened start command.file → AreBytesOf later whole text
      → OnErr result (AreOpened later whole command start after OutOfMemory)) → OnErr result (AreOpened tells content command before after OutOfMemory)
  whole_wanting wanting = subst (λ (told : Bool). OnErr result (AreOpened told content command before after OutOfMemory)) same (wanting before content one read_then)
