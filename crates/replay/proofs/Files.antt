-- What is said of the bytes of files that were read is said of the files.
use Rattle.std.proofs.Common.{◌≡◌, ℕ, ◌≤◌, Bool, true, false, IsTrue, IfOk, Result, Ok, Err, Option, Some, List, [], ◌++◌, length, refl, sym, ◌∙◌, subst, arith}
use Rattle.std.proofs.lemmas.List.{length-append}
use Rattle.cbase.specs.declared.tree.item.Item.{Item}
use Rattle.command_line.specs.ReplayLine.{replay_command_of}
use Rattle.command_line.specs.declared.replay.ReplayCommand.{ReplayCommand}
use Rattle.ctokens.specs.TokenList.{HasNamedFiles}
use Rattle.ctokens.specs.declared.token.Tokens.{Tokens}
use Rattle.expressions.specs.Context.{Context}
use Rattle.ccheck.specs.declared.program.TypedProgram.{TypedProgram}
use Rattle.outside.specs.Faults.{Rose}
use Rattle.outside.specs.Reading.{IsWithin, Reads}
use Rattle.outside.specs.declared.reading.Reading.{Reading}
use Rattle.outside.specs.declared.reading.Reading.TheVariants.{Whole, Long}
use Rattle.report.specs.declared.replay_answer.ReplayShown.{ReplayShown}
use Rattle.report.specs.declared.replay_answer.ReplayAnswer.{ReplayAnswer}
use Rattle.report.specs.declared.replay_answer.ReplayAnswer.TheVariants.{Played, BadChoices, NotRead, Construct, TooLong, Usage, ReadFault, OutOfMemory}
use Rattle.replay.specs.declared.top.Plan.{Plan}
use Rattle.replay.specs.declared.judging.Answered.{Answered}
use Rattle.replay.specs.declared.judging.JudgedFile.{JudgedFile}
use Rattle.replay.specs.declared.judging.JudgedFile.TheVariants.{Holds, Refused}
use Rattle.replay.specs.Answered.{AreBytesOf, HasTaken, IsAnswered}
use Rattle.replay.specs.Judged.{HasProgram, IsVerdict, Judges}
use Rattle.replay.specs.Shown.{AreNames, choices_in, file_in, unless_nothing}
use Rattle.replay.proofs.Told.{has_program}
use Rattle.replay.specs.Told.{HoldsProgramOf, HoldsTyped, IsAboutBoth, IsAboutFile, IsAboutFiles, IsJudged, IsTold}

-- the answers but these three are verdicts
pub is_verdict : (answer : ReplayAnswer) → (answer ≡ Usage → ⊥) → (answer ≡ ReadFault → ⊥) → (answer ≡ OutOfMemory → ⊥) → IsVerdict answer
is_verdict (Played what) usage fault memory = tt
is_verdict BadChoices usage fault memory = tt
is_verdict (NotRead why) usage fault memory = tt
is_verdict (Construct number place) usage fault memory = tt
is_verdict (TooLong taken second) usage fault memory = tt
is_verdict Usage usage fault memory = usage refl
is_verdict ReadFault usage fault memory = fault refl
is_verdict OutOfMemory usage fault memory = memory refl

-- an answer about what was read is no fault of a reading
pub file_about : (answer : ReplayAnswer) → IsAboutFile answer → IsAboutFiles answer
file_about (Played what) about = absurd about
file_about BadChoices about = absurd about
file_about (NotRead why) about = tt
file_about (Construct number place) about = tt
file_about (TooLong taken second) about = absurd about
file_about Usage about = absurd about
file_about ReadFault about = absurd about
file_about OutOfMemory about = absurd about

pub both_about : (answer : ReplayAnswer) → IsAboutBoth answer → IsAboutFiles answer
both_about (Played what) about = tt
both_about BadChoices about = tt
both_about (NotRead why) about = absurd about
both_about (Construct number place) about = absurd about
both_about (TooLong taken second) about = absurd about
both_about Usage about = absurd about
both_about ReadFault about = absurd about
both_about OutOfMemory about = absurd about

pub file_no_fault : (P : Type 0) (answer : ReplayAnswer) → IsAboutFile answer → answer ≡ ReadFault → P
file_no_fault P answer about is = absurd (subst IsAboutFile is about)

pub both_no_fault : (P : Type 0) (answer : ReplayAnswer) → IsAboutBoth answer → answer ≡ ReadFault → P
both_no_fault P answer about is = absurd (subst IsAboutBoth is about)

-- an answer about files is none of these two
pub about_no_usage : (answer : ReplayAnswer) → IsAboutFiles answer → answer ≡ Usage → ⊥
about_no_usage answer about is = subst IsAboutFiles is about

pub about_no_memory : (answer : ReplayAnswer) → IsAboutFiles answer → answer ≡ OutOfMemory → ⊥
about_no_memory answer about is = subst IsAboutFiles is about

-- a count that rose later rose
pub rose_later : (before middle now : ℕ) → before ≤ middle → Rose middle now → Rose before now
rose_later before middle now later rose = omega (arith, later, rose)

pub same_bytes : (bytes others : List ℕ) → Some bytes ≡ Some others → bytes ≡ others
same_bytes bytes others is = cc

taken_of : (tells : Bool) (content : Option (List ℕ)) (bytes : List ℕ) (taken : ℕ) → IsTrue tells → content ≡ Some bytes → HasTaken tells content taken
    → taken ≤ length bytes
taken_of tells content bytes taken told one has =
    let (front, rest, counted, is) = has told in
    let whole : bytes ≡ front ++ rest = same_bytes bytes (front ++ rest) (sym one ∙ is) in
    rw whole (omega (arith, length-append front rest, counted))

module _ (tells : Bool) (content other : Option (List ℕ)) (command : ReplayCommand) where
  -- an answer about FILE alone
  pub file_answered : (bytes : List ℕ) (answered : Answered) → AreBytesOf tells content bytes → IsAboutFile answered.answer
      → ((second : List ℕ) → IsTold command bytes second answered) → IsAnswered tells content other command answered.names answered.answer
  file_answered bytes answered are about told = of_file answered.answer answered.names about (λ second. (told second).judged) (told []).named
    where
      of_file : (answer : ReplayAnswer) (names : List (List ℕ)) → IsAboutFile answer → ((second : List ℕ) → Judges command bytes second answer)
          → AreNames command.file bytes answer names → IsAnswered tells content other command names answer
      of_file (Played what) names about judged named = absurd about
      of_file BadChoices names about judged named = absurd about
      of_file (NotRead why) names about judged named = (bytes, are, judged, named)
      of_file (Construct number place) names about judged named = (bytes, are, judged, named)
      of_file (TooLong taken second) names about judged named = absurd about
      of_file Usage names about judged named = absurd about
      of_file ReadFault names about judged named = absurd about
      of_file OutOfMemory names about judged named = absurd about

  -- an answer about both files, which were read to their ends
  pub both_answered : (bytes second : List ℕ) (answered : Answered) → AreBytesOf tells content bytes → AreBytesOf tells other second
      → IsAboutBoth answered.answer → IsTold command bytes second answered → IsAnswered tells content other command answered.names answered.answer
  both_answered bytes second answered are those about told = of_both answered.answer answered.names about told.judged told.named
    where
      of_both : (answer : ReplayAnswer) (names : List (List ℕ)) → IsAboutBoth answer → Judges command bytes second answer
          → AreNames command.file bytes answer names → IsAnswered tells content other command names answer
      of_both (Played what) names about judged named = (bytes, second, are, those, judged, named)
      of_both BadChoices names about judged named = (bytes, second, are, those, judged, named)
      of_both (NotRead why) names about judged named = absurd about
      of_both (Construct number place) names about judged named = absurd about
      of_both (TooLong taken also) names about judged named = absurd about
      of_both Usage names about judged named = absurd about
      of_both ReadFault names about judged named = absurd about
      of_both OutOfMemory names about judged named = absurd about

  of_whole : (bytes second front behind : List ℕ) (answer : ReplayAnswer) → IsTrue tells → content ≡ Some bytes → other ≡ Some second
      → AreBytesOf tells content front → AreBytesOf tells other behind → Judges command front behind answer → Judges command bytes second answer
  of_whole bytes second front behind answer told one two are those judged =
      subst (λ (bs : List ℕ). Judges command bs second answer) (same_bytes front bytes (sym (are told) ∙ one))
      (subst (λ (bs : List ℕ). Judges command front bs answer) (same_bytes behind second (sym (those told) ∙ two)) judged)

  -- where the contents of both are told, an answer is true of them
  pub judged_of : (bytes second : List ℕ) (names : List (List ℕ)) (answer : ReplayAnswer) → IsTrue tells → content ≡ Some bytes → other ≡ Some second
      → IsVerdict answer → IsAnswered tells content other command names answer → Judges command bytes second answer
  judged_of bytes second names (Played what) told one two verdict (front, behind, are, those, judged, named) =
      of_whole bytes second front behind (Played what) told one two are those judged
  judged_of bytes second names BadChoices told one two verdict (front, behind, are, those, judged, named) =
      of_whole bytes second front behind BadChoices told one two are those judged
  judged_of bytes second names (NotRead why) told one two verdict (front, are, judged, named) =
      subst (λ (bs : List ℕ). Judges command bs second (NotRead why)) (same_bytes front bytes (sym (are told) ∙ one)) (judged second)
  judged_of bytes second names (Construct number place) told one two verdict (front, are, judged, named) =
      subst (λ (bs : List ℕ). Judges command bs second (Construct number place)) (same_bytes front bytes (sym (are told) ∙ one)) (judged second)
  judged_of bytes second names (TooLong taken false) told one two verdict (is, has, none) = (is, taken_of tells content bytes taken told one has)
  judged_of bytes second names (TooLong taken true) told one two verdict (is, has, (front, are, holds, named)) =
      (is, taken_of tells other second taken told two has, subst (HasProgram command) (same_bytes front bytes (sym (are told) ∙ one)) holds)
  judged_of bytes second names Usage told one two verdict answered = absurd verdict
  judged_of bytes second names ReadFault told one two verdict answered = absurd verdict
  judged_of bytes second names OutOfMemory told one two verdict answered = absurd verdict

-- what is found of FILE, where it is known which it is
module _ (command : ReplayCommand) (bytes : List ℕ) where
  pub program_held : (judged : JudgedFile) (t : Tokens) (typed : TypedProgram) → judged ≡ Holds t typed → IsJudged command bytes judged
      → (t.text ≡ bytes) × HasNamedFiles t × HoldsTyped command t typed
  program_held judged t typed is found = subst (IsJudged command bytes) is found

  pub answer_refused : (judged : JudgedFile) (answered : Answered) → judged ≡ Refused answered → IsJudged command bytes judged
      → IsAboutFile answered.answer × ((second : List ℕ) → IsTold command bytes second answered)
  answer_refused judged answered is found = subst (IsJudged command bytes) is found

-- an answer with a result
module _ {E : Type 0} (command : ReplayCommand) (result : Result Answered E) where
  -- what is answered where FILE was read to its end is so of the file. It was read before CHOICES was, which kept the contents
  pub whole_answered : (tells later : Bool) (bytes_of : List ℕ → Option (List ℕ)) (name file : List ℕ) (other kept : Option (List ℕ)) (left text : List ℕ)
      (reading : Reading) → name ≡ file → reading ≡ Whole text → (IsTrue tells → Reads (bytes_of name) left reading) → later ≡ tells → kept ≡ other
      → ((whole : Option (List ℕ)) → AreBytesOf later whole text → IfOk result (λ a. IsAnswered later whole kept command a.names a.answer))
      → IfOk result (λ a. IsAnswered tells (bytes_of file) other command a.names a.answer)
  whole_answered tells later bytes_of name file other kept left text reading named is reads same also answered =
      subst (λ (bytes : Option (List ℕ)). IfOk result (λ a. IsAnswered tells (bytes_of file) bytes command a.names a.answer)) also
      (subst (λ (told : Bool). ((whole : Option (List ℕ)) → AreBytesOf told whole text → IfOk result (λ a. IsAnswered told whole kept command a.names a.answer)))
      same answered (bytes_of file)
      (λ told. subst (λ (x : List ℕ). bytes_of x ≡ Some text) named (subst (Reads (bytes_of name) left) is (reads told)).0))

-- so many bytes were taken of a file that is too long
pub long_taken : (tells : Bool) (bytes_of : List ℕ → Option (List ℕ)) (name file left taken : List ℕ) (reading : Reading) → name ≡ file → reading ≡ Long taken
    → IsWithin 4194304 reading → (IsTrue tells → Reads (bytes_of name) left reading) → HasTaken tells (bytes_of file) 4194305
long_taken tells bytes_of name file left taken reading named is within reads = λ told. (
  taken,
  left,
  subst (IsWithin 4194304) is within,
  subst (λ (x : List ℕ). bytes_of x ≡ Some (taken ++ left)) named (subst (Reads (bytes_of name) left) is (reads told)),
)

-- what is said of an answer is said of it with its report
pub plan_answered : {E : Type 0} (tells : Bool) (content other : Option (List ℕ)) (command : ReplayCommand) (result : Result Plan E) (shown : ReplayShown)
    → IsAnswered tells content other command shown.names shown.answer → IfOk result (λ plan. plan.shown ≡ shown)
    → IfOk result (λ plan. IsAnswered tells content other command plan.shown.names plan.shown.answer)
plan_answered tells content other command (Ok plan) shown answered is =
    subst (λ (s : ReplayShown). IsAnswered tells content other command s.names s.answer) (sym is) answered
plan_answered tells content other command (Err error) shown answered is = tt

-- the words ask for one command
pub same_command : (found : Option ReplayCommand) (words : List (List ℕ)) (first other : ReplayCommand) → found ≡ replay_command_of words → found ≡ Some first
    → replay_command_of words ≡ Some other → first ≡ other
same_command found words first other is some also =
    let both : Some first ≡ Some other = sym some ∙ (is ∙ also) in
    cc

-- what is answered where CHOICES is too long
pub long_answered : (tells : Bool) (content other : Option (List ℕ)) (command : ReplayCommand) (t : Tokens) (items : List Item) (text : Context) (strict : Bool)
    → HoldsProgramOf command t items text strict → HasTaken tells other 4194305 → AreBytesOf tells content t.text → IsAnswered tells content other command t.names (TooLong 4194305 true)
long_answered tells content other command t items text strict held taken are =
    (refl, taken, (t.text, are, has_program command t items text strict held, (t, held.holds.is_read.are_tokens, refl)))

-- the names of the two files are shown
shown_name : (name : List ℕ) (answer : ReplayAnswer) → IsAboutFiles answer → name ≡ unless_nothing name answer
shown_name name (Played what) about = refl
shown_name name BadChoices about = refl
shown_name name (NotRead why) about = refl
shown_name name (Construct number place) about = refl
shown_name name (TooLong taken second) about = refl
shown_name name Usage about = absurd about
shown_name name ReadFault about = refl
shown_name name OutOfMemory about = absurd about

-- a plan for a command
module _ {E : Type 0} where
  pub plan_known : (result : Result Plan E) → IfOk result (λ plan. IsAboutFiles plan.shown.answer) → IfOk result (λ plan. plan.shown.answer ≡ OutOfMemory → ⊥)
  plan_known (Ok plan) about = about_no_memory plan.shown.answer about
  plan_known (Err error) about = tt

  pub plan_no_usage : (P : Type 0) (result : Result Plan E) → IfOk result (λ plan. IsAboutFiles plan.shown.answer)
      → IfOk result (λ plan. plan.shown.answer ≡ Usage → P)
  plan_no_usage P (Ok plan) about = λ is. absurd (about_no_usage plan.shown.answer about is)
  plan_no_usage P (Err error) about = tt

  pub plan_named : (result : Result Plan E) (found : Option ReplayCommand) (words : List (List ℕ)) (command : ReplayCommand) → found ≡ replay_command_of words
      → found ≡ Some command → IfOk result (λ plan. IsAboutFiles plan.shown.answer) → IfOk result (λ plan. plan.shown.file ≡ command.file)
      → IfOk result (λ plan. plan.shown.file ≡ unless_nothing (file_in (replay_command_of words)) plan.shown.answer)
  plan_named (Ok plan) found words command is some about named =
      subst (λ (o : Option ReplayCommand). plan.shown.file ≡ unless_nothing (file_in o) plan.shown.answer) (sym some ∙ is)
      (named ∙ shown_name command.file plan.shown.answer about)
  plan_named (Err error) found words command is some about named = tt

  pub plan_choices_named : (result : Result Plan E) (found : Option ReplayCommand) (words : List (List ℕ)) (command : ReplayCommand)
      → found ≡ replay_command_of words → found ≡ Some command → IfOk result (λ plan. IsAboutFiles plan.shown.answer)
      → IfOk result (λ plan. plan.shown.choices ≡ command.choices)
      → IfOk result (λ plan. plan.shown.choices ≡ unless_nothing (choices_in (replay_command_of words)) plan.shown.answer)
  plan_choices_named (Ok plan) found words command is some about named =
      subst (λ (o : Option ReplayCommand). plan.shown.choices ≡ unless_nothing (choices_in o) plan.shown.answer) (sym some ∙ is)
      (named ∙ shown_name command.choices plan.shown.answer about)
  plan_choices_named (Err error) found words command is some about named = tt

  pub plan_about : (result : Result Plan E) (shown : ReplayShown) → IsAboutFiles shown.answer → IfOk result (λ plan. plan.shown ≡ shown)
      → IfOk result (λ plan. IsAboutFiles plan.shown.answer)
  plan_about (Ok plan) shown about is = subst (λ (s : ReplayShown). IsAboutFiles s.answer) (sym is) about
  plan_about (Err error) shown about is = tt
